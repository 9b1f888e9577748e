-- What is told of files that stay as they are.
use Rattle.std.proofs.Common.{◌≡◌, Option, Some, None, IfSome, ◌∙◌, subst}
use Rattle.outside_io.specs.Content.{Told}

-- told content that stays the same
abbrev pub StaysTold : {C : Type 0} → Option C → Option C → Type 0
StaysTold before now = Told before now (λ old new. new ≡ old)

pub stays_on : {C : Type 0} (a b c : Option C) → StaysTold a b → StaysTold b c → StaysTold a c
stays_on None b c first second = tt
stays_on (Some x) None c first second = absurd first
stays_on (Some x) (Some y) None first second = absurd second
stays_on (Some x) (Some y) (Some z) first second = second ∙ first

-- what is said of the content now holds of the content before
pub told_before : {C : Type 0} (P : C → Type 0) (before now : Option C) → StaysTold before now → IfSome now P → IfSome before P
told_before P None now stays holds = tt
told_before P (Some x) None stays holds = absurd stays
told_before P (Some x) (Some y) stays holds = subst P stays holds

pub told_map : {C : Type 0} (P Q : C → Type 0) (told : Option C) → ((c : C) → P c → Q c) → IfSome told P → IfSome told Q
told_map P Q None step p = tt
told_map P Q (Some c) step p = step c p

pub told_both : {C : Type 0} (P Q R : C → Type 0) (told : Option C) → ((c : C) → P c → Q c → R c) → IfSome told P → IfSome told Q → IfSome told R
told_both P Q R None both p q = tt
told_both P Q R (Some c) both p q = both c p q
