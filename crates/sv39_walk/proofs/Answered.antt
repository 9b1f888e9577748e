-- What a way to an entry that is no pointer answers, and the way of another address of the same page.
use Rattle.std.proofs.Common.{◌≡◌, ℕ, zero, suc, ◌+◌, ◌-◌, ◌*◌, ◌/◌, ◌≤◌, Bool, false, List, [], ◌∷◌, length, ap, sym, ◌∙◌, subst, arith}
use Rattle.std.specs.Prelude.{IsTrue, refl}
use Rattle.guest_ram.specs.Bytes.{HasPart}
use Rattle.guest_ram.proofs.PartLemmas.{has_part_is}
use Rattle.rv_alu.specs.declared.Mode.{Mode}
use Rattle.sv39_walk.specs.declared.Kind.{Kind}
use Rattle.sv39_walk.specs.declared.walk.Found.{Found}
use Rattle.sv39_walk.specs.Entry.{is_leaf, is_pointer, page_of}
use Rattle.sv39_walk.specs.Found.{IsFound, known_by, path_by, path_of}
use Rattle.sv39_walk.specs.Plain.{arrived, walked}
use Rattle.sv39_walk.specs.Remembered.{IsWalked}
use Rattle.sv39_walk.specs.Walk.{IsWay, entry_address, entry_at, last_of, root_of}
use Rattle.sv39_walk.proofs.Steps.{leaf_leads_nowhere, walked_end}
use Rattle.sv39_walk.proofs.Walks.{followed}

-- how the way ends
record Reaches (ram : List ℕ) (leaf last : ℕ) (level at : ℕ) : Type 0 where
  inside : HasPart ram at 8
  is : leaf ≡ entry_at ram at
  level_is : level ≡ last

reached : (ram : List ℕ) (mode : Mode) (sum mxr : Bool) (kind : Kind) (va leaf last : ℕ) → is_pointer leaf ≡ false → (level table : ℕ) → Reaches ram leaf last level (entry_address va level table) → walked ram mode sum mxr kind va (suc level) table ≡ arrived mode sum mxr kind va last leaf
reached ram mode sum mxr kind va leaf last ends level table end =
    walked_end ram mode sum mxr kind va level table ((has_part_is ram (entry_address va level table) 8).1 end.inside) (subst (λ (w : ℕ). is_pointer w ≡ false) end.is ends)
    ∙ ap (arrived mode sum mxr kind va level) (sym end.is)
    ∙ ap (λ (l : ℕ). arrived mode sum mxr kind va l leaf) end.level_is

pub way_walked : (ram : List ℕ) (mode : Mode) (sum mxr : Bool) (kind : Kind) (va table leaf : ℕ) (path : List ℕ) → IsWay ram va 2 table path → HasPart ram (last_of path) 8 → leaf ≡ entry_at ram (last_of path) → is_pointer leaf ≡ false → walked ram mode sum mxr kind va 3 table ≡ arrived mode sum mxr kind va (3 - length path) leaf
way_walked ram mode sum mxr kind va table leaf path way part is ends =
    let end : Reaches ram leaf (3 - length path) (2 + 1 - length path) (last_of path) = record { inside = part; is = is; level_is = omega arith } in
    followed ram mode sum mxr kind va (Reaches ram leaf (3 - length path)) (arrived mode sum mxr kind va (3 - length path) leaf) (reached ram mode sum mxr kind va leaf (3 - length path) ends) 2 table path way end

-- the entries for two addresses of a page are the same
same_entry : (va other level table : ℕ) → level ≤ 2 → va / 4096 ≡ other / 4096 → entry_address va level table ≡ entry_address other level table
same_entry va other zero table within same = ap (λ (b : ℕ). table * 4096 + 8 * b) (omega arith)
same_entry va other (suc zero) table within same = ap (λ (b : ℕ). table * 4096 + 8 * b) (omega arith)
same_entry va other (suc (suc zero)) table within same = ap (λ (b : ℕ). table * 4096 + 8 * b) (omega arith)
same_entry va other (suc (suc (suc n))) table within same = absurd (omega arith)

pub same_way : (ram : List ℕ) (va other : ℕ) → va / 4096 ≡ other / 4096 → (level table : ℕ) (path : List ℕ) → level ≤ 2 → IsWay ram va level table path → IsWay ram other level table path
same_way ram va other same level table [] within way = way
same_way ram va other same level table (at ∷ []) within way = way ∙ same_entry va other level table within same
same_way ram va other same level table (at ∷ next ∷ rest) within way =
    (way.0 ∙ same_entry va other level table within same, way.1, same_way ram va other same (level - 1) (page_of (entry_at ram at)) (next ∷ rest) (omega arith) way.2)

path_length : (count first second third : ℕ) → count ≤ 3 → length (path_by count first second third) ≡ count
path_length zero a b c most = refl
path_length (suc zero) a b c most = refl
path_length (suc (suc zero)) a b c most = refl
path_length (suc (suc (suc zero))) a b c most = refl
path_length (suc (suc (suc (suc n)))) a b c most = absurd (omega arith)

-- what is found answers the walk
pub found_walked : (ram : List ℕ) (satp va : ℕ) (f : Found) → IsFound ram satp va f → (mode : Mode) (sum mxr : Bool) (kind : Kind) → walked ram mode sum mxr kind va 3 (root_of satp) ≡ arrived mode sum mxr kind va (3 - f.count) f.leaf
found_walked ram satp va f found = λ mode sum mxr kind.
    way_walked ram mode sum mxr kind va (root_of satp) f.leaf (path_of f) found.way found.inside found.leaf found.ends
    ∙ ap (λ (n : ℕ). arrived mode sum mxr kind va (3 - n) f.leaf) (path_length f.count f.first f.second f.third found.most)

-- what is remembered answers the walk
pub known_walked : (ram : List ℕ) (satp page : ℕ) (f : Found) (va : ℕ) → IsWalked ram (known_by satp page f) → f.count ≤ 3 → page ≡ va / 4096 → (mode : Mode) (sum mxr : Bool) (kind : Kind) → walked ram mode sum mxr kind va 3 (root_of satp) ≡ arrived mode sum mxr kind va (3 - f.count) f.leaf
known_walked ram satp page f va known most page_is = λ mode sum mxr kind.
    let same : page * 4096 / 4096 ≡ va / 4096 = omega arith in
    way_walked ram mode sum mxr kind va (root_of satp) f.leaf (path_of f) (same_way ram (page * 4096) va same 2 (root_of satp) (path_of f) (omega arith) known.way) known.inside (sym known.same) (leaf_leads_nowhere f.leaf known.leaf_ends)
    ∙ ap (λ (n : ℕ). arrived mode sum mxr kind va (3 - n) f.leaf) (path_length f.count f.first f.second f.third most)

-- what is found can be remembered
pub found_known : (ram : List ℕ) (satp va page : ℕ) (f : Found) → IsFound ram satp va f → IsTrue (is_leaf f.leaf) → page ≡ va / 4096 → IsWalked ram (known_by satp page f)
found_known ram satp va page f found leaf page_is =
    let same : va / 4096 ≡ page * 4096 / 4096 = omega arith in
    record {
      way = same_way ram va (page * 4096) same 2 (root_of satp) (path_of f) (omega arith) found.way;
      inside = found.inside;
      same = sym found.leaf;
      leaf_ends = leaf;
    }
