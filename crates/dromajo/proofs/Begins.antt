-- A machine at reset runs, and a job begins as its work asks.
use Rattle.std.proofs.Common.{◌≡◌, ℕ, zero, suc, ◌+◌, ◌==◌, Bool, true, false, List, [], ◌∷◌, length, nat_lt, Option, Some, None, IfSome, is_none, if◌then◌else◌, Result, Ok, Err, IfOk, IsTrue, refl, sym, subst, ◌∙◌, arith}
use Rattle.std.proofs.lemmas.List.{length-append}
use Rattle.std.proofs.lemmas.List.Folds.{position_or_len_push}
use Rattle.std.proofs.lemmas.Bool.{ltb-true}
use Rattle.std.specs.List.{position_or_len}
use Rattle.sim_config.specs.declared.values.Shape.{Shape}
use Rattle.csr_file.specs.Kept.{reset_registers}
use Rattle.hart_step.specs.Harts.{is_in_debug, reset_hart, reset_harts}
use Rattle.hart_turns.specs.Machine.{MachineState, MachineView, is_running, reset_machine}
use Rattle.job_words.specs.declared.jobs.Begin.{Begin as NamedBegin}
use Rattle.job_words.specs.declared.jobs.Begin.TheVariants.{Checkpoint, Config, Image, Seed}
use Rattle.job_words.specs.declared.jobs.Work.{Work as NamedWork}
use Rattle.job_words.specs.declared.jobs.Work.TheVariants as named
use Rattle.job_words.specs.Seen.{MayBegin, begin_seen, work_seen}
use Rattle.dromajo.specs.Works.{BeginsWell, IsReset}

reset_outside : (n entry : ℕ) → is_in_debug (reset_hart n entry) ≡ false
unfolding reset_registers
reset_outside n entry = refl

-- behind so many harts, none of which is in debug mode, comes one more that is not
one_more : (first count : ℕ) (more : Bool) → first ≡ count → more ≡ false → (if first == count then count + (if more then 0 else 1) else first) ≡ count + 1
one_more first count true is out = cc
one_more first count false is out = search (is, arith)

none_in_debug : (n entry : ℕ) → position_or_len is_in_debug (reset_harts n entry) ≡ length (reset_harts n entry)
unfolding reset_harts
none_in_debug zero entry = refl
none_in_debug (suc n) entry =
    position_or_len_push is_in_debug (reset_harts n entry) (reset_hart n entry)
    ∙ one_more (position_or_len is_in_debug (reset_harts n entry)) (length (reset_harts n entry)) (is_in_debug (reset_hart n entry)) (none_in_debug n entry) (reset_outside n entry)
    ∙ sym (length-append (reset_harts n entry) (reset_hart n entry ∷ []))

-- so the first of them that is comes behind the last
none_found : (first count : ℕ) (b : Bool) → nat_lt first count ≡ b → first ≡ count → is_none (if b then Some first else None) ≡ true
none_found first count true less same =
    let below = ltb-true first count less in
    let never : ⊥ = omega (arith, below, same) in
    absurd never
none_found first count false less same = refl

pub reset_runs : (shape : Shape) (ram : List ℕ) (entry : ℕ) → is_running (reset_machine shape ram entry) ≡ true
reset_runs shape ram entry =
    let harts = reset_harts shape.harts entry in
    none_found (position_or_len is_in_debug harts) (length harts) (nat_lt (position_or_len is_in_debug harts) (length harts)) refl (none_in_debug shape.harts entry)

pub started_runs : {E : Type 0} (result : Result MachineView E) (shape : Shape) (ram : List ℕ) (entry : ℕ)
    → IfOk result (λ m. m.machine ≡ reset_machine shape ram entry) → IfOk result (λ m. IsTrue (is_running m.machine))
started_runs (Ok m) shape ram entry is = subst (λ (x : MachineState). IsTrue (is_running x)) (sym is) (reset_runs shape ram entry)
started_runs (Err e) shape ram entry is = tt

-- what is saved or judged begins at reset
pub begins_well : (begin : NamedBegin) (work : NamedWork) (m : MachineView) → MayBegin begin work → IsReset (begin_seen begin) m → BeginsWell (work_seen work) m
begins_well (Config file) (named.Turns turns logs) m may is = tt
begins_well (Config file) (named.Save turns name more) m may is = is
begins_well (Config file) named.Judge m may is = is
begins_well (Image file) (named.Turns turns logs) m may is = tt
begins_well (Image file) (named.Save turns name more) m may is = is
begins_well (Image file) named.Judge m may is = is
begins_well (Seed seed) (named.Turns turns logs) m may is = tt
begins_well (Seed seed) (named.Save turns name more) m may is = is
begins_well (Seed seed) named.Judge m may is = is
begins_well (Checkpoint file) (named.Turns turns logs) m may is = tt
begins_well (Checkpoint file) (named.Save turns name more) m may is = absurd may
begins_well (Checkpoint file) named.Judge m may is = absurd may

-- what holds whatever is told holds of what is told
pub told_any : {A : Type 0} (told : Option A) (P : A → Type 0) → ((a : A) → P a) → IfSome told P
told_any None P always = tt
told_any (Some a) P always = always a
