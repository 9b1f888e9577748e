-- The plain reckoning gives exactly what the definitions say.
use Rattle.std.proofs.Common.{◌≡◌, ℕ, List, sym, ◌∙◌, subst, Bool, true, false}
use Rattle.std.specs.Prelude.{◌↔◌, Result, Ok, Err, refl, IsTrue, IsFalse, MatchBool, if◌then◌else◌}
use Rattle.rv_alu.specs.declared.Mode.{Mode}
use Rattle.sv39_walk.specs.declared.Kind.{Kind}
use Rattle.sv39_walk.specs.declared.WalkFault.{WalkFault}
use Rattle.sv39_walk.specs.Plain.{translated, walked}
use Rattle.sv39_walk.specs.Walk.{Faults, Maps, is_canonical, is_untranslated, root_of}
use Rattle.sv39_walk.proofs.Walks.{HasWay, has_way_walked, walked_has_way}

-- an answer of the walk is that of its way
walk_answers : (ram : List ℕ) (mode : Mode) (sum mxr : Bool) (kind : Kind) (va level table : ℕ) (answer : Result ℕ WalkFault) → (walked ram mode sum mxr kind va 3 table ≡ answer) ↔ HasWay ram mode sum mxr kind va 2 table answer
walk_answers ram mode sum mxr kind va level table answer = (
  (λ is. subst (HasWay ram mode sum mxr kind va 2 table) is (walked_has_way ram mode sum mxr kind va 2 table)),
  has_way_walked ram mode sum mxr kind va 2 table answer,
)

-- the answers before and after the walk, by the two tests
address_by : (untranslated canonical : Bool) (va pa : ℕ) (walk : Result ℕ WalkFault) (Way : Type 0) → (walk ≡ Ok pa) ↔ Way →
    ((if untranslated then Ok va else if canonical then walk else Err WalkFault.Page) ≡ Ok pa) ↔ MatchBool untranslated (pa ≡ va) (IsTrue canonical × Way)
address_by true canonical va pa walk Way is = ((λ same. cc), (λ same. cc))
address_by false true va pa walk Way is = ((λ answer. (refl, is.0 answer)), (λ way. is.1 way.1))
address_by false false va pa walk Way is = ((λ answer. absurd (cc)), (λ way. let never = way.0 in absurd (cc)))

fault_by : (untranslated canonical : Bool) (va : ℕ) (fault : WalkFault) (walk : Result ℕ WalkFault) (Way : Type 0) → (walk ≡ Err fault) ↔ Way →
    ((if untranslated then Ok va else if canonical then walk else Err WalkFault.Page) ≡ Err fault) ↔ (IsFalse untranslated × MatchBool canonical Way (fault ≡ WalkFault.Page))
fault_by true canonical va fault walk Way is = ((λ answer. absurd (cc)), (λ way. let never = way.0 in absurd (cc)))
fault_by false true va fault walk Way is = ((λ answer. (refl, is.0 answer)), (λ way. is.1 way.1))
fault_by false false va fault walk Way is = ((λ answer. (refl, cc)), (λ way. let same = way.1 in cc))

pub reckons_address : (ram : List ℕ) (satp : ℕ) (mode : Mode) (sum mxr : Bool) (kind : Kind) (va pa : ℕ) → (translated ram satp mode sum mxr kind va ≡ Ok pa) ↔ Maps ram satp mode sum mxr kind va pa
unfolding translated
reckons_address ram satp mode sum mxr kind va pa =
    address_by (is_untranslated satp mode) (is_canonical va) va pa (walked ram mode sum mxr kind va 3 (root_of satp)) _ (walk_answers ram mode sum mxr kind va 2 (root_of satp) (Ok pa))

pub reckons_fault : (ram : List ℕ) (satp : ℕ) (mode : Mode) (sum mxr : Bool) (kind : Kind) (va : ℕ) (fault : WalkFault) → (translated ram satp mode sum mxr kind va ≡ Err fault) ↔ Faults ram satp mode sum mxr kind va fault
unfolding translated
reckons_fault ram satp mode sum mxr kind va fault =
    fault_by (is_untranslated satp mode) (is_canonical va) va fault (walked ram mode sum mxr kind va 3 (root_of satp)) _ (walk_answers ram mode sum mxr kind va 2 (root_of satp) (Err fault))

pub one_address_lem : (ram : List ℕ) (satp : ℕ) (mode : Mode) (sum mxr : Bool) (kind : Kind) (va pa other : ℕ) → Maps ram satp mode sum mxr kind va pa → Maps ram satp mode sum mxr kind va other → pa ≡ other
one_address_lem ram satp mode sum mxr kind va pa other maps also =
    let first = (reckons_address ram satp mode sum mxr kind va pa).1 maps in
    let second = (reckons_address ram satp mode sum mxr kind va other).1 also in cc

pub never_both : (ram : List ℕ) (satp : ℕ) (mode : Mode) (sum mxr : Bool) (kind : Kind) (va pa : ℕ) (fault : WalkFault) → Maps ram satp mode sum mxr kind va pa → Faults ram satp mode sum mxr kind va fault → ⊥
never_both ram satp mode sum mxr kind va pa fault maps faults =
    let first = (reckons_address ram satp mode sum mxr kind va pa).1 maps in
    let second = (reckons_fault ram satp mode sum mxr kind va fault).1 faults in cc

pub one_fault : (ram : List ℕ) (satp : ℕ) (mode : Mode) (sum mxr : Bool) (kind : Kind) (va : ℕ) (fault other : WalkFault) → Faults ram satp mode sum mxr kind va fault → Faults ram satp mode sum mxr kind va other → fault ≡ other
one_fault ram satp mode sum mxr kind va fault other faults also =
    let first = (reckons_fault ram satp mode sum mxr kind va fault).1 faults in
    let second = (reckons_fault ram satp mode sum mxr kind va other).1 also in cc

-- what equals the plain reckoning answers as the definitions say
pub is_mapped : (ram : List ℕ) (satp : ℕ) (mode : Mode) (sum mxr : Bool) (kind : Kind) (va : ℕ) (answer : Result ℕ WalkFault) → answer ≡ translated ram satp mode sum mxr kind va → (pa : ℕ) → (answer ≡ Ok pa) ↔ Maps ram satp mode sum mxr kind va pa
is_mapped ram satp mode sum mxr kind va answer is pa =
    let both = reckons_address ram satp mode sum mxr kind va pa in
    ((λ ok. both.0 (sym is ∙ ok)), (λ maps. is ∙ both.1 maps))

pub is_fault : (ram : List ℕ) (satp : ℕ) (mode : Mode) (sum mxr : Bool) (kind : Kind) (va : ℕ) (answer : Result ℕ WalkFault) → answer ≡ translated ram satp mode sum mxr kind va → (fault : WalkFault) → (answer ≡ Err fault) ↔ Faults ram satp mode sum mxr kind va fault
is_fault ram satp mode sum mxr kind va answer is fault =
    let both = reckons_fault ram satp mode sum mxr kind va fault in
    ((λ err. both.0 (sym is ∙ err)), (λ faults. is ∙ both.1 faults))
