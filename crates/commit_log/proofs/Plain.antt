-- A line has no newline, and is short.
use Rattle.std.proofs.Common.{◌≢◌, ℕ, zero, suc, ◌+◌, ◌*◌, ◌/◌, ◌%◌, ◌≤◌, Bool, true, false, List, [], ◌∷◌, ◌++◌, length, Option, Some, None, arith, length-append}
use Rattle.std.specs.Prelude.{nat_lt, if◌then◌else◌}
use Rattle.std.specs.List.{All, AllByRecursion}
use Rattle.std.proofs.lemmas.Bool.Decides.{nat_tests}
use Rattle.std.proofs.lemmas.List.Elements.{All-from_recursion}
use Rattle.hart_step.specs.declared.event.Event.{Event}
use Rattle.hart_step.specs.declared.event.Event.TheVariants.{Commit, Exception, Interrupt, Host}
use Rattle.hart_step.specs.declared.event.Priv.{Priv}
use Rattle.hart_step.specs.declared.event.Priv.TheVariants.{U, S, M, D}
use Rattle.hart_step.specs.declared.event.Put.{Put}
use Rattle.hart_step.specs.Events.{IsEvent, IsStored}
use Rattle.guest_ram.specs.Bytes.{IsSize}
use Rattle.commit_log.specs.Spelling.{answer_part, hex, hex_digit, line, mode_letter, number, place, register_part, store_part, volatile_part, word}

-- no newline, and at most n characters
record Plain (xs : List ℕ) (n : ℕ) : Type 0 where
  clean : AllByRecursion (λ c. c ≢ 10) xs
  short : length xs ≤ n

none : Plain [] 0
none = record { clean = tt; short = omega arith }

more : (c : ℕ) (xs : List ℕ) (n : ℕ) → c ≢ 10 → Plain xs n → Plain (c ∷ xs) (1 + n)
more c xs n other p = let s = p.short in record { clean = (other, p.clean); short = omega arith }

within : (xs : List ℕ) (m n : ℕ) → m ≤ n → Plain xs m → Plain xs n
within xs m n le p = let s = p.short in record { clean = p.clean; short = omega arith }

clean_both : (xs ys : List ℕ) → AllByRecursion (λ c. c ≢ 10) xs → AllByRecursion (λ c. c ≢ 10) ys → AllByRecursion (λ c. c ≢ 10) (xs ++ ys)
clean_both [] ys a b = b
clean_both (x ∷ xs) ys a b = (a.0, clean_both xs ys a.1 b)

both : (xs ys : List ℕ) (m n : ℕ) → Plain xs m → Plain ys n → Plain (xs ++ ys) (m + n)
both xs ys m n p q =
    let s = p.short in
    let t = q.short in
    record { clean = clean_both xs ys p.clean q.clean; short = omega (arith, length-append xs ys) }

either : (b : Bool) (xs ys : List ℕ) (n : ℕ) → Plain xs n → Plain ys n → Plain (if b then xs else ys) n
either true xs ys n p q = p
either false xs ys n p q = q

digit_plain : (d : ℕ) → hex_digit d ≢ 10
digit_plain d = grind (arith, nat_tests)

hex_plain : (n v : ℕ) → Plain (hex n v) n
unfolding hex
hex_plain zero v = none
hex_plain (suc n) v = within _ (1 + n) (suc n) (omega arith) (more _ (hex n v) n (digit_plain _) (hex_plain n v))

word_plain : (n v : ℕ) → Plain (word n v) (1 + n)
unfolding word
word_plain n v = more 32 (hex n v) n (omega arith) (hex_plain n v)

number_plain : (n : ℕ) → Plain (number n) 2
unfolding number
number_plain n =
    either (nat_lt n 10) _ _ 2
    (within _ 1 2 (omega arith) (more (48 + n) [] 0 (omega arith) none))
    (more (48 + n / 10) _ 1 (omega arith) (more (48 + n % 10) [] 0 (omega arith) none))

mode_plain : (mode : Priv) → mode_letter mode ≢ 10
mode_plain U = omega arith
mode_plain S = omega arith
mode_plain M = omega arith
mode_plain D = omega arith

place_plain : (hart : ℕ) (mode : Priv) (pc : ℕ) → Plain (place hart mode pc) 21
unfolding place
place_plain hart mode pc =
    more 32 _ 20 (omega arith) (more (48 + hart) _ 19 (omega arith) (more 32 _ 18 (omega arith) (more (mode_letter mode) _ 17 (mode_plain mode) (word_plain 16 pc))))

register_plain : (rd : Option (ℕ × ℕ)) → Plain (register_part rd) 21
register_plain None = within [] 0 21 (omega arith) none
register_plain (Some rd) = more 32 _ 20 (omega arith) (more 120 _ 19 (omega arith) (both (number rd.0) (word 16 rd.1) 2 17 (number_plain rd.0) (word_plain 16 rd.1)))

size_most : (n : ℕ) → IsSize n → n ≤ 8
size_most n is = grind arith

value_plain : (size value : ℕ) → size ≤ 8 → Plain (word (2 * size) value) 17
value_plain size value most = within _ (1 + 2 * size) 17 (omega arith) (word_plain (2 * size) value)

store_plain : (st : Option Put) → IsStored st → Plain (store_part st) 39
store_plain None good = within [] 0 39 (omega arith) none
store_plain (Some st) good =
    more 32 _ 38 (omega arith) (more 115 _ 37 (omega arith) (more 116 _ 36 (omega arith)
    (both (word 16 st.at) _ 17 19 (word_plain 16 st.at)
    (more 32 _ 18 (omega arith) (more (48 + st.size) _ 17 (omega arith) (value_plain st.size st.value (size_most st.size good.0)))))))

answer_plain : (dv : Option ℕ) → Plain (answer_part dv) 20
answer_plain None = within [] 0 20 (omega arith) none
answer_plain (Some v) = more 32 _ 19 (omega arith) (more 100 _ 18 (omega arith) (more 118 _ 17 (omega arith) (word_plain 16 v)))

volatile_plain : (vl : Option ℕ) → Plain (volatile_part vl) 20
volatile_plain None = within [] 0 20 (omega arith) none
volatile_plain (Some v) = more 32 _ 19 (omega arith) (more 118 _ 18 (omega arith) (more 108 _ 17 (omega arith) (word_plain 16 v)))

line_plain : (e : Event) → IsEvent e → Plain (line e) 131
unfolding line
line_plain (Commit hart mode pc insn rd st dv vl) good =
    more 67 _ 130 (omega arith)
    (both (place hart mode pc) _ 21 109 (place_plain hart mode pc)
    (both (word 8 insn) _ 9 100 (word_plain 8 insn)
    (both (register_part rd) _ 21 79 (register_plain rd)
    (both (store_part st) _ 39 40 (store_plain st good.2)
    (both (answer_part dv) (volatile_part vl) 20 20 (answer_plain dv) (volatile_plain vl))))))
line_plain (Exception hart mode pc cause tval) good =
    within _ 42 131 (omega arith)
    (more 88 _ 41 (omega arith)
    (both (place hart mode pc) _ 21 20 (place_plain hart mode pc)
    (more 32 _ 19 (omega arith) (both (number cause) (word 16 tval) 2 17 (number_plain cause) (word_plain 16 tval)))))
line_plain (Interrupt hart cause) good =
    within _ 6 131 (omega arith)
    (more 73 _ 5 (omega arith) (more 32 _ 4 (omega arith) (more (48 + hart) _ 3 (omega arith) (more 32 _ 2 (omega arith) (number_plain cause)))))
line_plain (Host v) good =
    within _ 18 131 (omega arith) (more 72 _ 17 (omega arith) (word_plain 16 v))

pub clean_lem : (e : Event) → IsEvent e → All (λ c. c ≢ 10) (line e)
clean_lem e good = All-from_recursion _ _ (line_plain e good).clean

pub short_lem : (e : Event) → IsEvent e → length (line e) ≤ 131
short_lem e good = (line_plain e good).short
