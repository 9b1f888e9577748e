-- What reading gives, in terms of spellings alone.
use Rattle.std.proofs.Common.{◌≡◌, ℕ, zero, suc, ◌+◌, ◌-◌, ◌<◌, ◌≤◌, List, [], ◌∷◌, ◌++◌, length, take, Ok, Err, refl, sym, ap, subst, ◌∙◌, append_assoc, arith, length-append}
use Rattle.hart_step.specs.declared.event.Event.{Event}
use Rattle.commit_log.specs.Column.{IsColumn, IsStart}
use Rattle.commit_log.specs.Spelling.{IsSpellable, line}
use Rattle.commit_log.specs.Reading.{event_of}
use Rattle.commit_log.proofs.Back.{event_back}
use Rattle.commit_log.proofs.Grammar.{event_steady}

pub found_lem : (xs : List ℕ) (e : Event) → event_of xs ≡ Ok e → IsSpellable e × (xs ≡ line e)
found_lem xs e is = let s = event_steady.meant e xs is in (s.spellable, sym s.spelled)

pub only_lem : (xs : List ℕ) (e : Event) → IsSpellable e → xs ≡ line e → event_of xs ≡ Ok e
only_lem xs e ok is = ap (λ (ys : List ℕ). event_of ys) is ∙ event_back e ok

take_front : (front rest : List ℕ) → take (length front) (front ++ rest) ≡ front
take_front [] rest = refl
take_front (x ∷ front) rest = ap (λ (ys : List ℕ). x ∷ ys) (take_front front rest)

-- more than the front has the next byte too
record Reaches (front rest : List ℕ) (n : ℕ) : Type 0 where
  b : ℕ
  ys : List ℕ
  zs : List ℕ
  next : rest ≡ b ∷ ys
  taken : take n (front ++ rest) ≡ front ++ b ∷ zs

reaches : (front rest : List ℕ) (n : ℕ) → length front < n → n ≤ length (front ++ rest) → Reaches front rest n
reaches [] [] n above within = absurd (omega arith)
reaches [] (b ∷ ys) zero above within = absurd (omega arith)
reaches [] (b ∷ ys) (suc n) above within = record { b = b; ys = ys; zs = take n ys; next = refl; taken = refl }
reaches (x ∷ front) rest zero above within = absurd (omega arith)
reaches (x ∷ front) rest (suc n) above within =
    let r = reaches front rest n (omega arith) (omega arith) in
    record { b = r.b; ys = r.ys; zs = r.zs; next = r.next; taken = ap (λ (ys : List ℕ). x ∷ ys) r.taken }

begins_so : (front more : List ℕ) (e : Event) → event_of (front ++ more) ≡ Ok e → IsStart front
begins_so front more e is = let t = found_lem (front ++ more) e is in record { event = e; spellable = t.0; rest = more; spelled = sym t.1 }

no_start : (front rest : List ℕ) (n : ℕ) → ((b : ℕ) (ys zs : List ℕ) (c : Event) → rest ≡ b ∷ ys → event_of (front ++ b ∷ zs) ≡ Ok c → ⊥) → length front < n → n ≤ length (front ++ rest) → IsStart (take n (front ++ rest)) → ⊥
no_start front rest n stuck above within start =
    let r = reaches front rest n above within in
    let spelled : line start.event ≡ front ++ r.b ∷ (r.zs ++ start.rest) =
    start.spelled ∙ ap (λ (ys : List ℕ). ys ++ start.rest) r.taken ∙ append_assoc front (r.b ∷ r.zs) start.rest in
    stuck r.b r.ys (r.zs ++ start.rest) start.event r.next (ap (λ (ys : List ℕ). event_of ys) (sym spelled) ∙ event_back start.event start.spellable)

column_of_front : (front rest : List ℕ) (more : List ℕ) (e : Event) → event_of (front ++ more) ≡ Ok e → ((b : ℕ) (ys zs : List ℕ) (c : Event) → rest ≡ b ∷ ys → event_of (front ++ b ∷ zs) ≡ Ok c → ⊥) → IsColumn (front ++ rest) (length front)
column_of_front front rest more e is stuck = record {
  within = omega (arith, length-append front rest);
  begins = subst IsStart (sym (take_front front rest)) (begins_so front more e is);
  ends = λ n above within start. no_start front rest n stuck above within start;
}

pub record Stopped (xs : List ℕ) (left : ℕ) : Type 0 where
  pub within : left ≤ length xs
  pub column : IsColumn xs (length xs - left)

pub column_lem : (xs : List ℕ) (left : ℕ) → event_of xs ≡ Err left → Stopped xs left
column_lem xs left is =
    let s = event_steady.stops xs left is in
    let whole : length xs ≡ length s.front + length s.rest = ap (λ (ys : List ℕ). length ys) s.parts ∙ length-append s.front s.rest in
    let counted : length s.rest ≡ left = s.count in
    let same : length s.front ≡ length xs - left = omega arith in
    record {
      within = omega arith;
      column = subst (λ (n : ℕ). IsColumn xs n) same (subst (λ (ys : List ℕ). IsColumn ys (length s.front)) (sym s.parts) (column_of_front s.front s.rest s.more s.value s.completed s.stuck));
    }

-- ---- one spelling

pub one_spelling_lem : (a b : Event) → IsSpellable a → IsSpellable b → line a ≡ line b → a ≡ b
one_spelling_lem a b good_a good_b same =
    let e : event_of (line a) ≡ Ok b = only_lem (line a) b good_b same in
    let f : event_of (line a) ≡ Ok a = event_back a good_a in
    cc
