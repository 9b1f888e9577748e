-- A file that is made and grows in pieces.
use Rattle.std.proofs.Common.{◌≡◌, ℕ, ◌+◌, ◌-◌, ◌≤◌, List, [], ◌∷◌, ◌++◌, take, drop, length, Option, Some, None, Ok, Err, refl, sym, ap, subst, unwrap_or, ◌∙◌, inl, inr, arith}
use Rattle.std.proofs.Math.Seq.{take-add}
use Rattle.std.proofs.lemmas.List.{take-take}
use Rattle.guest_ram.specs.Bytes.{base, part_of}
use Rattle.outside_io.specs.Causes.{HasCause}
use Rattle.outside_io.specs.Content.{GrowsBy, GrowsByPrefix, Held, KeepsOthers, Told, file_of}
use Rattle.outside_io.specs.declared.OutFault.{OutFault}
use Rattle.outside_acts.specs.declared.Stop.{Stop}
use Rattle.outside_acts.specs.Acts.{Act, Start, Append, StopsAt, filed, with_file}
use Rattle.outside_acts.proofs.Algebra.{filed_one}
use Rattle.outside_acts.proofs.Held.{told_map, unchanged_is, with_file_is, with_file_named, with_file_others}
use Rattle.outside_acts.proofs.OneAct.{OnFiles, on_append, on_start}
use Rattle.image_saver.specs.Saving.{FilesCut, FilesDid, Writes, write_refusal}
use Rattle.image_saver.proofs.Saves.{did, fault_cause, on_both, stops_append, was_cut}

-- the file was made, and these bytes were added
abbrev pub made : List ℕ → List ℕ → List Act
made name bytes = Start name ∷ Append name bytes ∷ []

pub on_made : (name bytes : List ℕ) → OnFiles (made name bytes)
on_made name bytes = on_both (on_start name) (on_append name bytes)

made_files : (name bytes : List ℕ) (held : Held) → filed (made name bytes) held ≡ with_file name bytes held
unfolding filed
made_files name bytes held =
    let empty : Held = with_file name [] held in
    let added : List ℕ = file_of empty name ++ bytes in
    let named : with_file name added empty name ≡ Some bytes =
    with_file_named name added empty ∙ ap (λ (o : Option (List ℕ)). Some (unwrap_or o [] ++ bytes)) (with_file_named name [] held) in
    with_file_is name bytes held (with_file name added empty) named
    (λ other apart. with_file_others name added empty other apart ∙ with_file_others name [] held other apart)

-- it has these bytes, and all others are as before
made_is : (name bytes : List ℕ) (before now : Held) → now name ≡ Some bytes → KeepsOthers name before now → FilesDid (made name bytes) before now
made_is name bytes before now named others = with_file_is name bytes before now named others ∙ sym (made_files name bytes before)

pub made_has : (name bytes : List ℕ) (before now : Held) → FilesDid (made name bytes) before now → (now name ≡ Some bytes) × KeepsOthers name before now
made_has name bytes before now is =
    let same = is ∙ made_files name bytes before in (
      ap (λ (held : Held). held name) same ∙ with_file_named name bytes before,
      λ other apart. ap (λ (held : Held). held other) same ∙ with_file_others name bytes before other apart,
    )

-- it grew by more
made_more : (name bytes piece : List ℕ) (x y z : Held) → FilesDid (made name bytes) x y → GrowsBy piece name y z → KeepsOthers name y z
    → FilesDid (made name (bytes ++ piece)) x z
made_more name bytes piece x y z is grows others =
    let has = made_has name bytes x y is in
    made_is name (bytes ++ piece) x z (grows ∙ ap (λ (o : Option (List ℕ)). Some (unwrap_or o [] ++ piece)) has.0)
    (λ other apart. others other apart ∙ has.1 other apart)

-- ---- pieces of memory

place_is : (n : ℕ) → base + n - base ≡ n
place_is n = omega arith

next_piece : (ram : List ℕ) (n size : ℕ) → take n ram ++ part_of ram (base + n) size ≡ take (n + size) ram
next_piece ram n size =
    ap (λ (k : ℕ). take n ram ++ take size (drop k ram)) (place_is n) ∙ sym (take-add n size ram)

front_of_piece : (ram : List ℕ) (n size k : ℕ) → k ≤ size → take n ram ++ take k (part_of ram (base + n) size) ≡ take (n + k) ram
front_of_piece ram n size k within =
    ap (λ (zs : List ℕ). take n ram ++ zs) (take-take k size (drop (base + n - base) ram) within) ∙ next_piece ram n k

piece_made : (name ram : List ℕ) (n size : ℕ) (a b c : Option Held) → Told a b (FilesDid (made name (take n ram)))
    → Told b c (GrowsBy (part_of ram (base + n) size) name) → Told b c (KeepsOthers name) → Told a c (FilesDid (made name (take (n + size) ram)))
piece_made name ram n size None b c first grows others = tt
piece_made name ram n size (Some x) None c first grows others = absurd first
piece_made name ram n size (Some x) (Some y) None first grows others = absurd grows
piece_made name ram n size (Some x) (Some y) (Some z) first grows others =
    subst (λ (bytes : List ℕ). FilesDid (made name bytes) x z) (next_piece ram n size) (made_more name (take n ram) _ x y z first grows others)

-- the making was cut after so many bytes
made_cut : (why : Stop) (name ram : List ℕ) (n : ℕ) (x z : Held) → StopsAt why (Append name ram) → FilesDid (made name (take n ram)) x z → FilesCut why (made name ram) x z
made_cut why name ram n x z stops is =
    let on = on_made name (take n ram) in
    record {
      front = made name (take n ram);
      cut = λ from. record {
        done = Start name ∷ [];
        next = Append name ram;
        rest = [];
        part = Append name (take n ram) ∷ [];
        acts_are = refl;
        stops = stops;
        part_is = inr (n, refl);
        left_are = refl;
      };
      unread = on.unread;
      unsent = on.silent;
      files_are = is;
    }

piece_cut : (why : Stop) (name ram piece : List ℕ) (n size : ℕ) (x y z : Held) → StopsAt why (Append name ram) → piece ≡ part_of ram (base + n) size → length piece ≡ size
    → FilesDid (made name (take n ram)) x y → GrowsByPrefix piece name y z → KeepsOthers name y z → FilesCut why (made name ram) x z
piece_cut why name ram piece n size x y z stops is long first (inl same) others =
    made_cut why name ram n x z stops (unchanged_is name y z same others ∙ first)
piece_cut why name ram piece n size x y z stops is long first (inr (k, most, grows)) others =
    let within : k ≤ size = omega (arith, most, long) in
    let bytes = ap (λ (zs : List ℕ). take n ram ++ take k zs) is ∙ front_of_piece ram n size k within in
    made_cut why name ram (n + k) x z stops
    (subst (λ (zs : List ℕ). FilesDid (made name zs) x z) bytes (made_more name (take n ram) (take k piece) x y z first grows others))

piece_cut_told : (why : Stop) (name ram piece : List ℕ) (n size : ℕ) (a b c : Option Held) → StopsAt why (Append name ram) → piece ≡ part_of ram (base + n) size → length piece ≡ size
    → Told a b (FilesDid (made name (take n ram))) → Told b c (GrowsByPrefix piece name) → Told b c (KeepsOthers name) → Told a c (FilesCut why (made name ram))
piece_cut_told why name ram piece n size None b c stops is long first grows others = tt
piece_cut_told why name ram piece n size (Some x) None c stops is long first grows others = absurd first
piece_cut_told why name ram piece n size (Some x) (Some y) None stops is long first grows others = absurd grows
piece_cut_told why name ram piece n size (Some x) (Some y) (Some z) stops is long first grows others =
    piece_cut why name ram piece n size x y z stops is long first grows others

-- ---- what the calls leave

-- the file was started, and no bytes were added
pub made_empty : {F S T : Type 0} {held : F → Option Held} {reads writes : F → ℕ} {a b : F} {x : S} (y : T) (name : List ℕ)
    → Writes {F = F} {T = S} held reads writes (Start name ∷ []) a b (Ok x) → Writes {F = F} {T = T} held reads writes (made name []) a b (Ok y)
made_empty {held = held} {a = a} {b = b} y name started =
    did y (made name [])
    (told_map (λ before now is. is ∙ filed_one (Start name) before ∙ sym (made_files name [] before)) (held a) (held b) started.done)
    started.cause started.reads

-- a piece more
pub piece_written : {F S T : Type 0} {held : F → Option Held} {reads writes : F → ℕ} {a b c : F} {x : T} {u : S} (name ram piece : List ℕ) (n size : ℕ)
    → piece ≡ part_of ram (base + n) size → Writes {F = F} {T = T} held reads writes (made name (take n ram)) a b (Ok x)
    → Told (held b) (held c) (GrowsBy piece name) → Told (held b) (held c) (KeepsOthers name) → HasCause {T = S} (writes b) (writes c) (Ok u) → reads c ≡ reads b
    → Writes {F = F} {T = T} held reads writes (made name (take (n + size) ram)) a c (Ok x)
piece_written {held = held} {a = a} {b = b} {c = c} {x = x} name ram piece n size is first grows others cause same =
    let grown = subst (λ (zs : List ℕ). Told (held b) (held c) (GrowsBy zs name)) is grows in
    did x (made name (take (n + size) ram)) (piece_made name ram n size (held a) (held b) (held c) first.done grown others)
    (cause.kept ∙ first.cause) (same ∙ first.reads)

-- a part of a piece more
pub piece_unwritten : {F S T U : Type 0} {held : F → Option Held} {reads writes : F → ℕ} {a b c : F} {x : T} (why : OutFault) (name ram piece : List ℕ) (n size : ℕ)
    → piece ≡ part_of ram (base + n) size → length piece ≡ size → Writes {F = F} {T = T} held reads writes (made name (take n ram)) a b (Ok x)
    → Told (held b) (held c) (GrowsByPrefix piece name) → Told (held b) (held c) (KeepsOthers name) → HasCause {T = S} (writes b) (writes c) (Err why) → reads c ≡ reads b
    → Writes {F = F} {T = U} held reads writes (made name ram) a c (Err (write_refusal why))
piece_unwritten {S = S} {U = U} {held = held} {writes = writes} {a = a} {b = b} {c = c} why name ram piece n size is long first grows others cause same =
    was_cut (write_refusal why) (made name ram)
    (piece_cut_told _ name ram piece n size (held a) (held b) (held c) (stops_append why name ram) is long first.done grows others)
    (fault_cause why (writes a) (writes c) (subst (λ (k : ℕ). HasCause {T = S} k (writes c) (Err why)) first.cause cause)) (same ∙ first.reads)
