-- A remembered walk of which a store touches no entry is the walk of the memory after it.
use Rattle.std.proofs.Common.{◌≡◌, ℕ, suc, ◌+◌, ◌-◌, ◌*◌, ◌<◌, ◌≤◌, List, [], ◌∷◌, length, take, drop, get_or, min, ap, sym, ◌∙◌, subst, arith, inl, inr}
use Rattle.std.specs.Prelude.{◌⊎◌, All, IsTrue, slice_index_or, unwrap_or}
use Rattle.std.proofs.lemmas.Bool.{cases_lt}
use Rattle.std.proofs.lemmas.List.{ext_get_or, get_or-drop, get_or-take, length-drop, length-take}
use Rattle.std.proofs.lemmas.List.Elements.{All-contains}
use Rattle.std.proofs.lemmas.Option.{unwrap_or-slice_get}
use Rattle.guest_ram.specs.Bytes.{HasPart, base, part_of}
use Rattle.sv39_walk.specs.Entry.{is_pointer, page_of}
use Rattle.sv39_walk.specs.Remembered.{Agrees, DiffersOnlyIn, IsApart, IsPartOf, IsUntouched, IsWalked, Remembered}
use Rattle.sv39_walk.specs.Walk.{IsWay, LeadsOn, entry_at, last_of}

-- ---- the bytes of an entry

-- a byte outside the range that differs
byte_kept : (at n : ℕ) (before after : List ℕ) → DiffersOnlyIn at n before after → (i : ℕ) → (base + i < at) ⊎ (at + n ≤ base + i) → get_or after i 0 ≡ get_or before i 0
byte_kept at n before after differs i outside =
    sym (unwrap_or-slice_get after i 0) ∙ ap (λ o. unwrap_or o 0) (differs.others i outside) ∙ unwrap_or-slice_get before i 0

-- a byte of an entry that is apart lies before the range or after it
outside_of : (at n entry byte : ℕ) → IsApart at n entry → entry ≤ byte → byte < entry + 8 → (byte < at) ⊎ (at + n ≤ byte)
outside_of at n entry byte apart low high =
    elim (cases_lt byte at) [
      | inl below ↦ inl below
      | inr from ↦ elim (cases_lt byte (at + n)) [
        | inl to ↦ absurd (apart byte low high from to)
        | inr above ↦ inr above
      ]
    ]

-- the bytes of an entry are as they were
bytes_kept : (at n entry : ℕ) (before after : List ℕ) → DiffersOnlyIn at n before after → IsApart at n entry → HasPart before entry 8 → part_of after entry 8 ≡ part_of before entry 8
bytes_kept at n entry before after differs apart part =
    let start = entry - base in
    let low : base ≤ entry = part.low in
    let long : (ram : List ℕ) → length (take 8 (drop start ram)) ≡ min 8 (length ram - start) = λ ram. length-take 8 (drop start ram) ∙ ap (min 8) (length-drop start ram) in
    let as_long : length (take 8 (drop start after)) ≡ length (take 8 (drop start before)) = long after ∙ ap (λ (l : ℕ). min 8 (l - start)) differs.as_long ∙ sym (long before) in
    ext_get_or 0 (take 8 (drop start after)) (take 8 (drop start before)) as_long (λ i within.
    let few : i < 8 = let bound = long after in omega arith in
    let outside : (base + (start + i) < at) ⊎ (at + n ≤ base + (start + i)) = outside_of at n entry (base + (start + i)) apart (omega arith) (omega arith) in
    get_or-take 8 (drop start after) i 0 few ∙ get_or-drop start after i 0
    ∙ byte_kept at n before after differs (start + i) outside
    ∙ sym (get_or-take 8 (drop start before) i 0 few ∙ get_or-drop start before i 0))

-- the entry is as it was, and lies in memory still
entry_kept : (at n entry : ℕ) (before after : List ℕ) → DiffersOnlyIn at n before after → IsApart at n entry → HasPart before entry 8 → entry_at after entry ≡ entry_at before entry
entry_kept at n entry before after differs apart part = rw (bytes_kept at n entry before after differs apart part)

part_kept : (at n entry : ℕ) (before after : List ℕ) → DiffersOnlyIn at n before after → HasPart before entry 8 → HasPart after entry 8
part_kept at n entry before after differs part =
    let as_long : length after ≡ length before = differs.as_long in
    record { low = part.low; high = omega arith }

-- ---- the way

all_rest : (P : ℕ → Type 0) (x : ℕ) (xs : List ℕ) → All P (x ∷ xs) → All P xs
all_rest P x xs all = λ k d within. all (suc k) d (omega arith)

-- the last entry on a way is apart where all are
last_apart : (P : ℕ → Type 0) (ram : List ℕ) (va level table : ℕ) (path : List ℕ) → IsWay ram va level table path → All P path → P (last_of path)
last_apart P ram va level table [] way all = absurd way
last_apart P ram va level table (at ∷ []) way all = all 0 at (omega arith)
last_apart P ram va level table (at ∷ next ∷ rest) way all = last_apart P ram va (level - 1) (page_of (entry_at ram at)) (next ∷ rest) way.2 (all_rest P at (next ∷ rest) all)

way_kept : (at n : ℕ) (before after : List ℕ) → DiffersOnlyIn at n before after → (va level table : ℕ) (path : List ℕ) → IsWay before va level table path → All (λ entry. IsApart at n entry) path → IsWay after va level table path
way_kept at n before after differs va level table [] way apart = way
way_kept at n before after differs va level table (entry ∷ []) way apart = way
way_kept at n before after differs va level table (entry ∷ next ∷ rest) way apart =
    let same : entry_at after entry ≡ entry_at before entry = entry_kept at n entry before after differs (apart 0 entry (omega arith)) way.1.inside in
    let leads : LeadsOn after level entry = record { inside = part_kept at n entry before after differs way.1.inside; pointer = subst (λ (e : ℕ). IsTrue (is_pointer e)) (sym same) way.1.pointer; above = way.1.above } in
    let below = way_kept at n before after differs va (level - 1) (page_of (entry_at before entry)) (next ∷ rest) way.2 (all_rest (λ e. IsApart at n e) entry (next ∷ rest) apart) in
    (way.0, leads, subst (λ (e : ℕ). IsWay after va (level - 1) (page_of e) (next ∷ rest)) (sym same) below)

-- ---- what is remembered

walk_kept : (at n : ℕ) (before after : List ℕ) → DiffersOnlyIn at n before after → (known : Remembered) → IsWalked before known → All (λ entry. IsApart at n entry) known.path → IsWalked after known
walk_kept at n before after differs known walked apart =
    let last = last_apart (λ e. IsApart at n e) before (known.page * 4096) 2 known.root known.path walked.way apart in
    record {
      way = way_kept at n before after differs (known.page * 4096) 2 known.root known.path walked.way apart;
      inside = part_kept at n (last_of known.path) before after differs walked.inside;
      same = entry_kept at n (last_of known.path) before after differs last walked.inside ∙ walked.same;
      leaf_ends = walked.leaf_ends;
    }

pub agreement_kept : (walker kept : List Remembered) (at n : ℕ) (before after : List ℕ) → Agrees walker before → IsPartOf walker kept → IsUntouched at n kept → DiffersOnlyIn at n before after → Agrees kept after
agreement_kept walker kept at n before after agrees part untouched differs =
    λ k d within.
    let known = slice_index_or kept k d in
    let walked = All-contains (IsWalked before) walker known agrees (part k d within) in
    walk_kept at n before after differs known walked (untouched k d within)
