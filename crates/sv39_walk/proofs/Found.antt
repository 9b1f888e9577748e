-- A walk that reads its entries one after another.
use Rattle.std.proofs.Common.{◌≡◌, ℕ, ◌%◌, ◌<◌, Bool, List, ap, ◌∙◌, subst, arith}
use Rattle.std.specs.Prelude.{Err, IsFalse, IsTrue, refl}
use Rattle.guest_ram.specs.Bytes.{HasPart}
use Rattle.rv_alu.specs.declared.Mode.{Mode}
use Rattle.sv39_walk.specs.declared.Kind.{Kind}
use Rattle.sv39_walk.specs.declared.WalkFault.{WalkFault}
use Rattle.sv39_walk.specs.Entry.{is_pointer, page_of}
use Rattle.sv39_walk.specs.Found.{IsFound}
use Rattle.sv39_walk.specs.Plain.{walked}
use Rattle.sv39_walk.specs.Walk.{LeadsOn, entry_address, entry_at, root_of}
use Rattle.sv39_walk.proofs.Steps.{level_down, level_outside, walked_none}

pub one_entry : (ram : List ℕ) (satp va first leaf : ℕ) → first ≡ entry_address va 2 (root_of satp) → first % 8 ≡ 0 → HasPart ram first 8 → leaf ≡ entry_at ram first → IsFalse (is_pointer leaf) → IsFound ram satp va (record { leaf = leaf; first = first; second = first; third = first; count = 1 })
one_entry ram satp va first leaf is aligned part leaf_is ends = record {
  some = omega arith;
  most = omega arith;
  first = aligned;
  second = aligned;
  third = aligned;
  way = is;
  inside = part;
  leaf = leaf_is;
  ends = ends;
}

leads_by : (ram : List ℕ) (level at word : ℕ) → 0 < level → HasPart ram at 8 → word ≡ entry_at ram at → IsTrue (is_pointer word) → LeadsOn ram level at
leads_by ram level at word above part word_is pointer = record { inside = part; pointer = subst (λ (w : ℕ). IsTrue (is_pointer w)) word_is pointer; above = above }

pub two_entries : (ram : List ℕ) (satp va first top second leaf : ℕ) → first ≡ entry_address va 2 (root_of satp) → first % 8 ≡ 0 → HasPart ram first 8 → top ≡ entry_at ram first → IsTrue (is_pointer top) → second ≡ entry_address va 1 (page_of top) → second % 8 ≡ 0 → HasPart ram second 8 → leaf ≡ entry_at ram second → IsFalse (is_pointer leaf) → IsFound ram satp va (record { leaf = leaf; first = first; second = second; third = first; count = 2 })
two_entries ram satp va first top second leaf is aligned part top_is pointer is2 aligned2 part2 leaf_is ends = record {
  some = omega arith;
  most = omega arith;
  first = aligned;
  second = aligned2;
  third = aligned;
  way = (is, leads_by ram 2 first top (omega arith) part top_is pointer, is2 ∙ ap (λ (w : ℕ). entry_address va 1 (page_of w)) top_is);
  inside = part2;
  leaf = leaf_is;
  ends = ends;
}

pub three_entries : (ram : List ℕ) (satp va first top second middle third leaf : ℕ) → first ≡ entry_address va 2 (root_of satp) → first % 8 ≡ 0 → HasPart ram first 8 → top ≡ entry_at ram first → IsTrue (is_pointer top) → second ≡ entry_address va 1 (page_of top) → second % 8 ≡ 0 → HasPart ram second 8 → middle ≡ entry_at ram second → IsTrue (is_pointer middle) → third ≡ entry_address va 0 (page_of middle) → third % 8 ≡ 0 → HasPart ram third 8 → leaf ≡ entry_at ram third → IsFalse (is_pointer leaf) → IsFound ram satp va (record { leaf = leaf; first = first; second = second; third = third; count = 3 })
three_entries ram satp va first top second middle third leaf is aligned part top_is pointer is2 aligned2 part2 middle_is pointer2 is3 aligned3 part3 leaf_is ends = record {
  some = omega arith;
  most = omega arith;
  first = aligned;
  second = aligned2;
  third = aligned3;
  way = (is, leads_by ram 2 first top (omega arith) part top_is pointer, (is2 ∙ ap (λ (w : ℕ). entry_address va 1 (page_of w)) top_is, leads_by ram 1 second middle (omega arith) part2 middle_is pointer2, is3 ∙ ap (λ (w : ℕ). entry_address va 0 (page_of w)) middle_is));
  inside = part3;
  leaf = leaf_is;
  ends = ends;
}

pub no_first : (ram : List ℕ) (satp va first : ℕ) → first ≡ entry_address va 2 (root_of satp) → (HasPart ram first 8 → ⊥) → (mode : Mode) (sum mxr : Bool) (kind : Kind) → walked ram mode sum mxr kind va 3 (root_of satp) ≡ Err WalkFault.Access
no_first ram satp va first is out = λ mode sum mxr kind. level_outside ram mode sum mxr kind va 3 (root_of satp) first (omega arith) is out

pub no_second : (ram : List ℕ) (satp va first top second : ℕ) → first ≡ entry_address va 2 (root_of satp) → HasPart ram first 8 → top ≡ entry_at ram first → IsTrue (is_pointer top) → second ≡ entry_address va 1 (page_of top) → (HasPart ram second 8 → ⊥) → (mode : Mode) (sum mxr : Bool) (kind : Kind) → walked ram mode sum mxr kind va 3 (root_of satp) ≡ Err WalkFault.Access
no_second ram satp va first top second is part top_is pointer is2 out = λ mode sum mxr kind.
    level_down ram mode sum mxr kind va 3 (root_of satp) first top (omega arith) is part top_is pointer
    ∙ level_outside ram mode sum mxr kind va 2 (page_of top) second (omega arith) is2 out

pub no_third : (ram : List ℕ) (satp va first top second middle third : ℕ) → first ≡ entry_address va 2 (root_of satp) → HasPart ram first 8 → top ≡ entry_at ram first → IsTrue (is_pointer top) → second ≡ entry_address va 1 (page_of top) → HasPart ram second 8 → middle ≡ entry_at ram second → IsTrue (is_pointer middle) → third ≡ entry_address va 0 (page_of middle) → (HasPart ram third 8 → ⊥) → (mode : Mode) (sum mxr : Bool) (kind : Kind) → walked ram mode sum mxr kind va 3 (root_of satp) ≡ Err WalkFault.Access
no_third ram satp va first top second middle third is part top_is pointer is2 part2 middle_is pointer2 is3 out = λ mode sum mxr kind.
    level_down ram mode sum mxr kind va 3 (root_of satp) first top (omega arith) is part top_is pointer
    ∙ level_down ram mode sum mxr kind va 2 (page_of top) second middle (omega arith) is2 part2 middle_is pointer2
    ∙ level_outside ram mode sum mxr kind va 1 (page_of middle) third (omega arith) is3 out

pub no_leaf : (ram : List ℕ) (satp va first top second middle third low : ℕ) → first ≡ entry_address va 2 (root_of satp) → HasPart ram first 8 → top ≡ entry_at ram first → IsTrue (is_pointer top) → second ≡ entry_address va 1 (page_of top) → HasPart ram second 8 → middle ≡ entry_at ram second → IsTrue (is_pointer middle) → third ≡ entry_address va 0 (page_of middle) → HasPart ram third 8 → low ≡ entry_at ram third → IsTrue (is_pointer low) → (mode : Mode) (sum mxr : Bool) (kind : Kind) → walked ram mode sum mxr kind va 3 (root_of satp) ≡ Err WalkFault.Page
no_leaf ram satp va first top second middle third low is part top_is pointer is2 part2 middle_is pointer2 is3 part3 low_is pointer3 = λ mode sum mxr kind.
    level_down ram mode sum mxr kind va 3 (root_of satp) first top (omega arith) is part top_is pointer
    ∙ level_down ram mode sum mxr kind va 2 (page_of top) second middle (omega arith) is2 part2 middle_is pointer2
    ∙ level_down ram mode sum mxr kind va 1 (page_of middle) third low (omega arith) is3 part3 low_is pointer3
    ∙ walked_none ram mode sum mxr kind va 0 (page_of low) refl
