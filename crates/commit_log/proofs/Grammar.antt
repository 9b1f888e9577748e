-- The reader of lines is steady: the grammar, part by part.
use Rattle.std.proofs.Common.{◌≡◌, ℕ, ◌+◌, ◌*◌, ◌^◌, ◌<◌, ◌≤◌, inl, inr, List, [], ◌∷◌, ◌++◌, Some, None, refl, sym, ap, append_assoc, arith}
use Rattle.std.proofs.lemmas.List.{append-nil}
use Rattle.hart_step.specs.declared.event.Event.{Event}
use Rattle.hart_step.specs.declared.event.Event.TheVariants.{Commit, Exception, Interrupt, Host}
use Rattle.hart_step.specs.declared.event.Priv.{Priv}
use Rattle.hart_step.specs.Events.{IsStored, IsWritten}
use Rattle.commit_log.specs.declared.commit.Shown.{Shown}
use Rattle.guest_ram.specs.Bytes.{IsSize}
use Rattle.commit_log.specs.Spelling.{answer_part, IsOptionalWord, IsSpellable, IsStoredAt, IsWrittenWord, line, number, place, register_part, store_part, volatile_part, word}
use Rattle.commit_log.specs.Reading.{answer_of, answer_or_later, choice, commit_of, event_of, exception_of, host_of, interrupt_of, nothing, register_of, register_or_later, store_of, store_or_later, unless_end, volatile_of}
use Rattle.commit_log.proofs.Steady.{changed, choice_firsts, end_firsts, end_steady, Firsts, past_firsts, past_steady, Steady, steady, unless_end_steady, wider_firsts}
use Rattle.commit_log.proofs.SteadyParts.{hart_steady, number_steady, place_steady, size_steady, word_firsts, word_steady}

-- ---- the parts of a commit that may be absent

pub record AreInRange (t : Shown) : Type 0 where
  pub register : IsWritten t.rd
  pub store : IsStored t.st
  pub written : IsWrittenWord t.rd
  pub stored : IsStoredAt t.st
  pub answer : IsOptionalWord t.dv
  pub volatile : IsOptionalWord t.vl

abbrev pub parts_of : Shown → List ℕ
parts_of t = register_part t.rd ++ (store_part t.st ++ (answer_part t.dv ++ volatile_part t.vl))

-- all parts, or none of the first, or of the first two, or of the first three
pub record Parts (t : Shown) (xs : List ℕ) : Type 0 where
  pub ranges : AreInRange t
  pub spelled : parts_of t ≡ xs

record PastRegister (t : Shown) (xs : List ℕ) : Type 0 where
  no_register : t.rd ≡ None
  parts : Parts t xs

record PastStore (t : Shown) (xs : List ℕ) : Type 0 where
  no_store : t.st ≡ None
  parts : PastRegister t xs

record PastAnswer (t : Shown) (xs : List ℕ) : Type 0 where
  no_answer : t.dv ≡ None
  parts : PastStore t xs

nothing_parts : Parts nothing []
nothing_parts = record {
  ranges = record { register = tt; store = tt; written = tt; stored = tt; answer = tt; volatile = tt };
  spelled = refl;
}

nothing_past_register : PastRegister nothing []
nothing_past_register = record { no_register = refl; parts = nothing_parts }

nothing_past_store : PastStore nothing []
nothing_past_store = record { no_store = refl; parts = nothing_past_register }

nothing_past_answer : PastAnswer nothing []
nothing_past_answer = record { no_answer = refl; parts = nothing_past_store }

volatile_parts : (v : ℕ) → v < 2 ^ 64 → PastAnswer (record nothing { vl = Some v }) (32 ∷ 118 ∷ 108 ∷ (word 16 v ++ []))
volatile_parts v below = record {
  no_answer = refl;
  parts = record {
    no_store = refl;
    parts = record {
      no_register = refl;
      parts = record {
        ranges = record { register = tt; store = tt; written = tt; stored = tt; answer = tt; volatile = below };
        spelled = ap (λ (ys : List ℕ). 32 ∷ 118 ∷ 108 ∷ ys) (sym (append-nil (word 16 v)));
      };
    };
  };
}

volatile_firsts : Firsts volatile_of (λ t xs. PastAnswer t (32 ∷ xs))
unfolding volatile_of
volatile_firsts =
    past_firsts 118 _ _ (past_steady 108 _ _ (word_steady 16 _ _ (λ v below. end_steady _ _ (volatile_parts v below))))

answer_parts : (t : Shown) (xs : List ℕ) (v : ℕ) → v < 2 ^ 64 → PastAnswer t xs → PastStore (record t { dv = Some v }) (32 ∷ 100 ∷ 118 ∷ (word 16 v ++ xs))
answer_parts t xs v below p =
    let none : t.dv ≡ None = p.no_answer in
    let no_store : t.st ≡ None = p.parts.no_store in
    let no_register : t.rd ≡ None = p.parts.parts.no_register in
    let all : Parts t xs = p.parts.parts.parts in
    let spelled : parts_of t ≡ xs = all.spelled in
    let later : volatile_part t.vl ≡ xs = rw (no_register, no_store, none) at spelled in
    record {
      no_store = no_store;
      parts = record {
        no_register = no_register;
        parts = record {
          ranges = record { register = all.ranges.register; store = all.ranges.store; written = all.ranges.written; stored = all.ranges.stored; answer = below; volatile = all.ranges.volatile };
          spelled = rw (no_register, no_store, later) refl;
        };
      };
    }

answer_steady : Steady answer_of (λ t xs. PastStore t (32 ∷ 100 ∷ xs))
unfolding answer_of
answer_steady =
    past_steady 118 _ _ (word_steady 16 _ _ (λ v below.
    changed (unless_end nothing volatile_of) (λ t. record t { dv = Some v }) PastAnswer _ (λ t xs p. answer_parts t xs v below p)
    (unless_end_steady nothing PastAnswer volatile_of nothing_past_answer (steady _ _ volatile_firsts))))

answer_or_later_firsts : Firsts answer_or_later (λ t xs. PastStore t (32 ∷ xs))
unfolding answer_or_later
answer_or_later_firsts =
    choice_firsts 100 answer_of volatile_of (λ t xs. PastStore t (32 ∷ xs)) answer_steady
    (wider_firsts volatile_of _ _ (λ t xs p. p.parts) volatile_firsts)

size_words : (size value : ℕ) → IsSize size → value < 2 ^ (4 * (2 * size)) → value < 256 ^ size
size_words size value is below = elim is [
  | inl one ↦ rw one (rw one at below)
  | inr more ↦ elim more [
    | inl two ↦ rw two (rw two at below)
    | inr more ↦ elim more [ inl four ↦ rw four (rw four at below) | inr eight ↦ rw eight (rw eight at below) ]
  ]
]

store_parts : (t : Shown) (xs : List ℕ) (at size value : ℕ) → at < 2 ^ 64 → IsSize size → value < 2 ^ (4 * (2 * size)) → PastStore t xs → PastRegister (record t { st = Some (record { at = at; size = size; value = value }) }) (32 ∷ 115 ∷ 116 ∷ (word 16 at ++ (32 ∷ (48 + size) ∷ (word (2 * size) value ++ xs))))
store_parts t xs at size value far is below p =
    let no_store : t.st ≡ None = p.no_store in
    let no_register : t.rd ≡ None = p.parts.no_register in
    let all : Parts t xs = p.parts.parts in
    let spelled : parts_of t ≡ xs = all.spelled in
    let later : answer_part t.dv ++ volatile_part t.vl ≡ xs = rw (no_register, no_store) at spelled in
    record {
      no_register = no_register;
      parts = record {
        ranges = record { register = all.ranges.register; store = (is, size_words size value is below); written = all.ranges.written; stored = far; answer = all.ranges.answer; volatile = all.ranges.volatile };
        spelled = rw (no_register, append_assoc (word 16 at) (32 ∷ (48 + size) ∷ word (2 * size) value) (answer_part t.dv ++ volatile_part t.vl), later) refl;
      };
    }

store_steady : Steady store_of (λ t xs. PastRegister t (32 ∷ 115 ∷ xs))
unfolding store_of
store_steady =
    past_steady 116 _ _ (word_steady 16 _ _ (λ at far.
    past_steady 32 _ _ (size_steady _ _ (λ size is.
    word_steady (2 * size) _ _ (λ value below.
    changed (unless_end nothing answer_or_later) (λ t. record t { st = Some (record { at = at; size = size; value = value }) }) PastStore _ (λ t xs p. store_parts t xs at size value far is below p)
    (unless_end_steady nothing PastStore answer_or_later nothing_past_store (steady _ _ answer_or_later_firsts)))))))

store_or_later_firsts : Firsts store_or_later (λ t xs. PastRegister t (32 ∷ xs))
unfolding store_or_later
store_or_later_firsts =
    choice_firsts 115 store_of answer_or_later (λ t xs. PastRegister t (32 ∷ xs)) store_steady
    (wider_firsts answer_or_later _ _ (λ t xs p. p.parts) answer_or_later_firsts)

register_parts : (t : Shown) (xs : List ℕ) (n v : ℕ) → 1 ≤ n → n ≤ 31 → v < 2 ^ 64 → PastRegister t xs → Parts (record t { rd = Some (n, v) }) (32 ∷ 120 ∷ (number n ++ (word 16 v ++ xs)))
register_parts t xs n v low high below p =
    let no_register : t.rd ≡ None = p.no_register in
    let all : Parts t xs = p.parts in
    let spelled : parts_of t ≡ xs = all.spelled in
    let later : store_part t.st ++ (answer_part t.dv ++ volatile_part t.vl) ≡ xs = rw no_register at spelled in
    record {
      ranges = record { register = (low, high); store = all.ranges.store; written = below; stored = all.ranges.stored; answer = all.ranges.answer; volatile = all.ranges.volatile };
      spelled = rw (append_assoc (number n) (word 16 v) (store_part t.st ++ (answer_part t.dv ++ volatile_part t.vl)), later) refl;
    }

register_steady : Steady register_of (λ t xs. Parts t (32 ∷ 120 ∷ xs))
unfolding register_of
register_steady =
    number_steady 1 31 _ _ refl (omega arith) (omega arith) (λ n low high.
    word_firsts 16 _ _ (λ v below.
    changed (unless_end nothing store_or_later) (λ t. record t { rd = Some (n, v) }) PastRegister _ (λ t xs p. register_parts t xs n v low high below p)
    (unless_end_steady nothing PastRegister store_or_later nothing_past_register (steady _ _ store_or_later_firsts))))

register_or_later_firsts : Firsts register_or_later (λ t xs. Parts t (32 ∷ xs))
unfolding register_or_later
register_or_later_firsts =
    choice_firsts 120 register_of store_or_later (λ t xs. Parts t (32 ∷ xs)) register_steady
    (wider_firsts store_or_later _ _ (λ t xs p. p.parts) store_or_later_firsts)

-- ---- the records

-- the event has a spelling, and the list is it
pub record Spells (e : Event) (xs : List ℕ) : Type 0 where
  pub spellable : IsSpellable e
  pub spelled : line e ≡ xs

commit_spells : (hart : ℕ) (mode : Priv) (pc insn : ℕ) (t : Shown) (xs : List ℕ) → hart < 8 → pc < 2 ^ 64 → insn < 2 ^ 32 → Parts t xs → Spells (Commit hart mode pc insn t.rd t.st t.dv t.vl) (67 ∷ (place hart mode pc ++ (word 8 insn ++ xs)))
unfolding line
commit_spells hart mode pc insn t xs small far below p = record {
  spellable = ((small, p.ranges.register, p.ranges.store), (far, below, p.ranges.written, p.ranges.stored, p.ranges.answer, p.ranges.volatile));
  spelled = ap (λ (ys : List ℕ). 67 ∷ (place hart mode pc ++ (word 8 insn ++ ys))) p.spelled;
}

commit_steady : Steady commit_of (λ e xs. Spells e (67 ∷ xs))
unfolding commit_of
commit_steady =
    place_steady _ _ (λ hart small mode pc far.
    word_steady 8 _ _ (λ insn below.
    changed (unless_end nothing register_or_later) (λ t. Commit hart mode pc insn t.rd t.st t.dv t.vl) Parts _ (λ t xs p. commit_spells hart mode pc insn t xs small far below p)
    (unless_end_steady nothing Parts register_or_later nothing_parts (steady _ _ register_or_later_firsts))))

exception_spells : (hart : ℕ) (mode : Priv) (pc cause tval : ℕ) → hart < 8 → pc < 2 ^ 64 → cause ≤ 15 → tval < 2 ^ 64 → Spells (Exception hart mode pc cause tval) (88 ∷ (place hart mode pc ++ (32 ∷ (number cause ++ (word 16 tval ++ [])))))
unfolding line
exception_spells hart mode pc cause tval small far within below = record {
  spellable = ((small, omega arith), (far, below));
  spelled = ap (λ (ys : List ℕ). 88 ∷ (place hart mode pc ++ (32 ∷ (number cause ++ ys)))) (sym (append-nil (word 16 tval)));
}

exception_steady : Steady exception_of (λ e xs. Spells e (88 ∷ xs))
unfolding exception_of
exception_steady =
    place_steady _ _ (λ hart small mode pc far.
    past_steady 32 _ _
    (number_steady 0 15 _ _ refl (omega arith) (omega arith) (λ cause low high.
    word_firsts 16 _ _ (λ tval below.
    end_steady _ _ (exception_spells hart mode pc cause tval small far high below)))))

interrupt_spells : (hart cause : ℕ) → hart < 8 → cause ≤ 15 → Spells (Interrupt hart cause) (73 ∷ 32 ∷ (48 + hart) ∷ 32 ∷ (number cause ++ []))
unfolding line
interrupt_spells hart cause small within = record {
  spellable = ((small, omega arith), tt);
  spelled = ap (λ (ys : List ℕ). 73 ∷ 32 ∷ (48 + hart) ∷ 32 ∷ ys) (sym (append-nil (number cause)));
}

interrupt_steady : Steady interrupt_of (λ e xs. Spells e (73 ∷ xs))
unfolding interrupt_of
interrupt_steady =
    past_steady 32 _ _
    (hart_steady _ _ (λ hart small.
    past_steady 32 _ _
    (number_steady 0 15 _ _ refl (omega arith) (omega arith) (λ cause low high.
    end_firsts _ _ (interrupt_spells hart cause small high)))))

host_spells : (v : ℕ) → v < 2 ^ 64 → Spells (Host v) (72 ∷ (word 16 v ++ []))
unfolding line
host_spells v below = record {
  spellable = (tt, below);
  spelled = ap (λ (ys : List ℕ). 72 ∷ ys) (sym (append-nil (word 16 v)));
}

host_firsts : Firsts host_of Spells
unfolding host_of
host_firsts = past_firsts 72 _ _ (word_steady 16 _ _ (λ v below. end_steady _ _ (host_spells v below)))

pub event_steady : Steady event_of Spells
unfolding event_of
event_steady =
    steady _ Spells
    (choice_firsts 67 commit_of (choice 88 exception_of (choice 73 interrupt_of host_of)) Spells commit_steady
    (choice_firsts 88 exception_of (choice 73 interrupt_of host_of) Spells exception_steady
    (choice_firsts 73 interrupt_of host_of Spells interrupt_steady host_firsts)))
