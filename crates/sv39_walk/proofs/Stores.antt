-- A store changes its own bytes alone.
use Rattle.std.proofs.Common.{◌≡◌, ℕ, ◌+◌, ◌-◌, ◌<◌, ◌≤◌, List, ◌++◌, length, take, drop, get_or, min, ap, sym, ◌∙◌, arith, inl, inr}
use Rattle.std.specs.Prelude.{◌⊎◌, Some, refl}
use Rattle.std.proofs.lemmas.Bool.{cases_lt}
use Rattle.std.proofs.lemmas.List.{get_or-append_right, get_or-drop, get_or-take, get_or_append_left, length-append, length-drop, length-take}
use Rattle.std.proofs.lemmas.Option.{slice_get-get_or, slice_get_past}
use Rattle.guest_ram.specs.Bytes.{HasPart, base, with_part}
use Rattle.sv39_walk.specs.Remembered.{DiffersOnlyIn}

-- an element outside the part that is written
outside_put : (xs bytes : List ℕ) (k i : ℕ) → k + length bytes ≤ length xs → (i < k) ⊎ (k + length bytes ≤ i) → get_or (take k xs ++ (bytes ++ drop (length bytes) (drop k xs))) i 0 ≡ get_or xs i 0
outside_put xs bytes k i fits (inl below) =
    let long : length (take k xs) ≡ k = length-take k xs ∙ omega arith in
    get_or_append_left (take k xs) (bytes ++ drop (length bytes) (drop k xs)) 0 i (omega arith) ∙ get_or-take k xs i 0 below
outside_put xs bytes k i fits (inr above) =
    let long : length (take k xs) ≡ k = length-take k xs ∙ omega arith in
    let sum : k + (length bytes + (i - k - length bytes)) ≡ i = omega arith in
    get_or-append_right (take k xs) (bytes ++ drop (length bytes) (drop k xs)) k i 0 long (omega arith)
    ∙ get_or-append_right bytes (drop (length bytes) (drop k xs)) (length bytes) (i - k) 0 refl (omega arith)
    ∙ get_or-drop (length bytes) (drop k xs) (i - k - length bytes) 0
    ∙ get_or-drop k xs (length bytes + (i - k - length bytes)) 0
    ∙ ap (λ (j : ℕ). get_or xs j 0) sum

put_length : (xs bytes : List ℕ) (k : ℕ) → k + length bytes ≤ length xs → length (take k xs ++ (bytes ++ drop (length bytes) (drop k xs))) ≡ length xs
put_length xs bytes k fits = simp (length-append, length-take, length-drop) (omega arith)

pub store_differs : (ram bytes : List ℕ) (at : ℕ) → HasPart ram at (length bytes) → DiffersOnlyIn at (length bytes) ram (with_part ram at bytes)
store_differs ram bytes at part =
    let k = at - base in
    let low : base ≤ at = part.low in
    let high : at + length bytes ≤ base + length ram = part.high in
    let whole = take k ram ++ (bytes ++ drop (length bytes) (drop k ram)) in
    let fits : k + length bytes ≤ length ram = omega arith in
    let as_long : length (take (length ram) whole) ≡ length ram = length-take (length ram) whole ∙ ap (min (length ram)) (put_length ram bytes k fits) ∙ omega arith in
    record {
      as_long = as_long;
      others = λ i outside. elim (cases_lt i (length ram)) [
        | inl within ↦
            let aside : (i < k) ⊎ (k + length bytes ≤ i) = elim outside [ inl below ↦ inl (omega arith) | inr above ↦ inr (omega arith) ] in
            slice_get-get_or (take (length ram) whole) i 0 (omega arith)
            ∙ ap Some (get_or-take (length ram) whole i 0 within ∙ outside_put ram bytes k i fits aside)
            ∙ sym (slice_get-get_or ram i 0 within)
        | inr past ↦ slice_get_past (take (length ram) whole) i (omega arith) ∙ sym (slice_get_past ram i past)
      ];
    }
