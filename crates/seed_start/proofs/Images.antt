-- The bytes of the program, one drawn instruction after another.
use Rattle.std.proofs.Common.{◌≡◌, ℕ, ◌+◌, suc, List, [], ◌∷◌, ◌++◌, refl, sym, ap, ◌∙◌, arith}
use Rattle.std.proofs.lemmas.List.{append_assoc, append-nil}
use Rattle.byteorder.specs.Endian.{little_bytes}
use Rattle.rv_decode.specs.declared.Insn.{Insn}
use Rattle.rv_decode.specs.Encode.{encoded}
use Rattle.seed_start.specs.Seed.{closing, drawn_insn, drawn_insns, image_of, next_state, opening, program_of, state_of}

-- the bytes of two programs one after the other
pub both : (first second : List Insn) → image_of (first ++ second) ≡ image_of first ++ image_of second
unfolding image_of
both [] second = refl
both (insn ∷ rest) second = ap (λ bytes. little_bytes 4 (encoded insn) ++ bytes) (both rest second) ∙ sym (append_assoc (little_bytes 4 (encoded insn)) (image_of rest) (image_of second))

-- those of one instruction
pub single : (insn : Insn) → image_of (insn ∷ []) ≡ little_bytes 4 (encoded insn)
unfolding image_of
single insn = append-nil (little_bytes 4 (encoded insn))

-- before the first drawn instruction
pub none_drawn : (seed : ℕ) → image_of opening ≡ image_of opening ++ image_of (drawn_insns seed 0)
unfolding drawn_insns image_of
none_drawn seed = sym (append-nil (image_of opening))

pub first_state : (seed : ℕ) → seed ≡ state_of seed 0
unfolding state_of
first_state seed = refl

-- the bytes up to the drawn instruction of a number, and its own
after_one : (seed n word : ℕ) (bytes : List ℕ) → bytes ≡ image_of opening ++ image_of (drawn_insns seed n) → word ≡ encoded (drawn_insn (state_of seed n)) → bytes ++ little_bytes 4 word ≡ image_of opening ++ image_of (drawn_insns seed (suc n))
unfolding drawn_insns
after_one seed n word bytes so_far is =
    let insn : Insn = drawn_insn (state_of seed n) in
    ap (λ before. before ++ little_bytes 4 word) so_far ∙ ap (λ w. (image_of opening ++ image_of (drawn_insns seed n)) ++ little_bytes 4 w) is
    ∙ append_assoc (image_of opening) (image_of (drawn_insns seed n)) (little_bytes 4 (encoded insn))
    ∙ ap (λ more. image_of opening ++ (image_of (drawn_insns seed n) ++ more)) (sym (single insn))
    ∙ ap (λ more. image_of opening ++ more) (sym (both (drawn_insns seed n) (insn ∷ [])))

pub one_more : (seed n word : ℕ) (bytes : List ℕ) → bytes ≡ image_of opening ++ image_of (drawn_insns seed n) → word ≡ encoded (drawn_insn (state_of seed n)) → bytes ++ little_bytes 4 word ≡ image_of opening ++ image_of (drawn_insns seed (n + 1))
one_more seed n word bytes so_far is =
    let next : suc n ≡ n + 1 = omega arith in
    after_one seed n word bytes so_far is ∙ ap (λ (k : ℕ). image_of opening ++ image_of (drawn_insns seed k)) next

suc_state : (seed n : ℕ) → next_state (state_of seed n) ≡ state_of seed (suc n)
unfolding state_of
suc_state seed n = refl

pub next_one : (seed n s : ℕ) → s ≡ state_of seed n → next_state s ≡ state_of seed (n + 1)
next_one seed n s is =
    let next : suc n ≡ n + 1 = omega arith in
    ap next_state is ∙ suc_state seed n ∙ ap (state_of seed) next

-- the bytes of the whole program
pub whole : (seed word : ℕ) (bytes : List ℕ) (last : Insn) → closing ≡ last ∷ [] → bytes ≡ image_of opening ++ image_of (drawn_insns seed 200) → word ≡ encoded last → bytes ++ little_bytes 4 word ≡ image_of (program_of seed)
whole seed word bytes last ends so_far is =
    ap (λ before. before ++ little_bytes 4 word) so_far ∙ ap (λ w. (image_of opening ++ image_of (drawn_insns seed 200)) ++ little_bytes 4 w) is
    ∙ append_assoc (image_of opening) (image_of (drawn_insns seed 200)) (little_bytes 4 (encoded last))
    ∙ ap (λ more. image_of opening ++ (image_of (drawn_insns seed 200) ++ more)) (sym (single last) ∙ ap image_of (sym ends))
    ∙ ap (λ more. image_of opening ++ more) (sym (both (drawn_insns seed 200) closing))
    ∙ sym (both opening (drawn_insns seed 200 ++ closing))
