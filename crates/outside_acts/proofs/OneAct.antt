-- What a call on one object does, as one act over all that is outside.
use Rattle.std.proofs.Common.{◌≡◌, ℕ, ◌<◌, List, [], ◌∷◌, take, drop, Option, Some, None, refl, sym, ap, subst, ◌∙◌, inl, inr}
use Rattle.std.proofs.Math.Nat.{le_refl}
use Rattle.std.specs.Io.KnownBytes.{Appends, Keeps}
use Rattle.outside_io.specs.Content.{GrowsBy, GrowsByPrefix, Held, IsEmptied, KeepsOthers, MayBeEmptied, Told}
use Rattle.outside_io.specs.declared.OutFault.{OutFault}
use Rattle.outside_io.specs.declared.OutFault.TheVariants as fault
use Rattle.outside_acts.specs.declared.Stop.{Stop}
use Rattle.outside_acts.specs.declared.Stop.TheVariants as stop
use Rattle.outside_acts.specs.Acts.{Act, ReadTo, Send, Start, Append, Did, DidCut, IsPart, StopsAt, filed, read, sent}
use Rattle.outside_acts.specs.Calls.{Does, OnlyRead, Stops, stop_by}
use Rattle.outside_acts.specs.World.{World}
use Rattle.outside_acts.proofs.Algebra.{IsFiled, appends_none, filed_none, filed_one, read_none, read_one, sent_none, sent_one}
use Rattle.outside_acts.proofs.Held.{added, started, unchanged_is}

-- ---- acts that leave an object alone

-- acts that send nothing leave the console
silent : (acts : List Act) (a b : Option (List ℕ)) → sent acts ≡ [] → b ≡ a → Appends a b (sent acts)
silent acts a b none same =
    let here : Appends a b [] = subst (λ (w : Option (List ℕ)). Appends a w []) (sym same) (appends_none a) in
    subst (λ (zs : List ℕ). Appends a b zs) (sym none) here

-- acts that file nothing leave the files
unfiled : (acts : List Act) (a b : Option Held) → ((held : Held) → filed acts held ≡ held) → b ≡ a → Told a b (IsFiled acts)
unfiled acts None b none same = tt
unfiled acts (Some x) None none same = cc
unfiled acts (Some x) (Some y) none same =
    let here : y ≡ x = cc in
    here ∙ sym (none x)

-- acts that read nothing leave the input
unread : (acts : List Act) (bytes : List ℕ) (from : ℕ) (a b : Option (List ℕ))
    → read acts from ≡ from → b ≡ a → a ≡ Some (drop from bytes) → b ≡ Some (drop (read acts from) bytes)
unread acts bytes from a b none same is = same ∙ is ∙ ap (λ (n : ℕ). Some (drop n bytes)) (sym none)

-- acts on files alone
pub record OnFiles (acts : List Act) : Type 0 where
  pub silent : sent acts ≡ []
  pub unread : (from : ℕ) → read acts from ≡ from

pub on_none : OnFiles []
on_none = record { silent = sent_none; unread = read_none }

pub on_start : (name : List ℕ) → OnFiles (Start name ∷ [])
on_start name = record { silent = sent_one (Start name); unread = read_one (Start name) }

pub on_append : (name piece : List ℕ) → OnFiles (Append name piece ∷ [])
on_append name piece = record { silent = sent_one (Append name piece); unread = read_one (Append name piece) }

-- where the files are as such acts leave them and nothing else changed, the acts were done
pub does_files : {acts : List Act} {before now : World} → OnFiles acts → now.left ≡ before.left → now.written ≡ before.written
    → Told before.held now.held (IsFiled acts) → Does acts before now
does_files {acts} {before} {now} on left written told = λ bytes from is. record {
  left_is = unread acts bytes from before.left now.left (on.unread from) left is;
  console = silent acts before.written now.written on.silent written;
  files = told;
}

-- ---- one act that was done

-- so many bytes were read in all, and nothing else changed
pub did_read : {bytes : List ℕ} {n : ℕ} {before now : World} (from : ℕ)
    → OnlyRead before now → now.left ≡ Some (drop n bytes) → Did bytes from (ReadTo n ∷ []) before now
did_read {bytes} {n} {before} {now} from rest is = record {
  left_is = is ∙ ap (λ (k : ℕ). Some (drop k bytes)) (sym (read_one (ReadTo n) from));
  console = silent (ReadTo n ∷ []) before.written now.written (sent_one (ReadTo n)) rest.written;
  files = unfiled (ReadTo n ∷ []) before.held now.held (filed_one (ReadTo n)) rest.held;
}

-- the console got the piece
pub sends : {piece : List ℕ} {before now : World} → now.left ≡ before.left → now.held ≡ before.held
    → Appends before.written now.written piece → Does (Send piece ∷ []) before now
sends {piece} {before} {now} left held written = λ bytes from is. record {
  left_is = unread (Send piece ∷ []) bytes from before.left now.left (read_one (Send piece) from) left is;
  console = subst (λ (zs : List ℕ). Appends before.written now.written zs) (sym (sent_one (Send piece))) written;
  files = unfiled (Send piece ∷ []) before.held now.held (filed_one (Send piece)) held;
}

-- the file was made and emptied
pub starts : {name : List ℕ} {before now : World} → now.left ≡ before.left → now.written ≡ before.written
    → Told before.held now.held (IsEmptied name) → Told before.held now.held (KeepsOthers name) → Does (Start name ∷ []) before now
starts {name} {before} {now} left written named others =
    does_files (on_start name) left written (started name before.held now.held named others)

-- the file grew by the piece
pub adds : {name piece : List ℕ} {before now : World} → now.left ≡ before.left → now.written ≡ before.written
    → Told before.held now.held (GrowsBy piece name) → Told before.held now.held (KeepsOthers name)
    → Does (Append name piece ∷ []) before now
adds {name} {piece} {before} {now} left written named others =
    does_files (on_append name piece) left written (added name piece before.held now.held named others)

-- ---- one act that failed

-- a part of it was done
pub cut_one : {stop : Stop} {bytes : List ℕ} {from : ℕ} {part : List Act} {before now : World} (next : Act)
    → StopsAt stop next → IsPart from next part → Did bytes from part before now → DidCut stop bytes from (next ∷ []) before now
cut_one {from = from} {part = part} next stops part_is did = record {
  front = part;
  cut = record {
    done = [];
    next = next;
    rest = [];
    part = part;
    acts_are = refl;
    stops = stops;
    part_is = subst (λ (n : ℕ). IsPart n next part) (sym (read_none from)) part_is;
    left_are = refl;
  };
  did = did;
}

kept_left : (a b : Option (List ℕ)) (xs : List ℕ) → a ≡ Some xs → Keeps a b → b ≡ Some xs
kept_left None b xs is keeps = cc
kept_left (Some ys) None xs is keeps = absurd keeps
kept_left (Some ys) (Some zs) xs is keeps = ap (λ (vs : List ℕ). Some vs) keeps ∙ is

-- the input failed, and nothing was taken
pub read_stops : {bytes : List ℕ} {from n : ℕ} {before now : World} → from < n → OnlyRead before now
    → Keeps before.left now.left → before.left ≡ Some (drop from bytes) → DidCut stop.Input bytes from (ReadTo n ∷ []) before now
read_stops {bytes} {from} {n} {before} {now} more rest keeps is =
    let left : now.left ≡ Some (drop from bytes) = kept_left before.left now.left (drop from bytes) is keeps in
    cut_one (ReadTo n) tt (from, le_refl from, more, refl) (did_read from rest left)

stops_send : (why : OutFault) (piece : List ℕ) → StopsAt (stop_by why stop.Out) (Send piece)
stops_send fault.Failed piece = tt
stops_send fault.NoMemory piece = tt

pub stops_start : (why : OutFault) (name : List ℕ) → StopsAt (stop_by why stop.Files) (Start name)
stops_start fault.Failed name = tt
stops_start fault.NoMemory name = tt

pub stops_append : (why : OutFault) (name piece : List ℕ) → StopsAt (stop_by why stop.Files) (Append name piece)
stops_append fault.Failed name piece = tt
stops_append fault.NoMemory name piece = tt

-- the console got a front of the piece
pub send_stops : {piece : List ℕ} {before now : World} (why : OutFault) (n : ℕ) → now.left ≡ before.left → now.held ≡ before.held
    → Appends before.written now.written (take n piece) → Stops (stop_by why stop.Out) (Send piece ∷ []) before now
send_stops {piece} why n left held written = λ bytes from is.
    cut_one (Send piece) (stops_send why piece) (n, refl) (sends left held written bytes from is)

-- of an act on a file a part was done, whatever was read before
pub record DidPart (act : Act) (before now : Option Held) : Type 0 where
  pub part : List Act
  pub part_is : (from : ℕ) → IsPart from act part
  pub on : OnFiles part
  pub filed : Told before now (IsFiled part)

file_stops : {stop : Stop} {act : Act} {before now : World} → StopsAt stop act → now.left ≡ before.left → now.written ≡ before.written
    → DidPart act before.held now.held → Stops stop (act ∷ []) before now
file_stops {act = act} stops left written done = λ bytes from is.
    cut_one act stops (done.part_is from) (does_files done.on left written done.filed bytes from is)

none_done : (act : Act) (a b : Option Held) → ((from : ℕ) → IsPart from act []) → Told a b (IsFiled []) → DidPart act a b
none_done act a b part_is filed = record { part = []; part_is = part_is; on = on_none; filed = filed }

pub start_part : (name : List ℕ) (a b : Option Held) → Told a b (MayBeEmptied name) → Told a b (KeepsOthers name) → DidPart (Start name) a b
start_part name None b named others = none_done (Start name) None b (λ from. inl refl) tt
start_part name (Some x) None named others = absurd named
start_part name (Some x) (Some y) (inl same) others =
    none_done (Start name) (Some x) (Some y) (λ from. inl refl) (unchanged_is name x y same others ∙ sym (filed_none x))
start_part name (Some x) (Some y) (inr empty) others = record {
  part = Start name ∷ [];
  part_is = λ from. inr refl;
  on = on_start name;
  filed = started name (Some x) (Some y) empty others;
}

pub append_part : (name piece : List ℕ) (a b : Option Held) → Told a b (GrowsByPrefix piece name) → Told a b (KeepsOthers name)
    → DidPart (Append name piece) a b
append_part name piece None b named others = none_done (Append name piece) None b (λ from. inl refl) tt
append_part name piece (Some x) None named others = absurd named
append_part name piece (Some x) (Some y) (inl same) others =
    none_done (Append name piece) (Some x) (Some y) (λ from. inl refl) (unchanged_is name x y same others ∙ sym (filed_none x))
append_part name piece (Some x) (Some y) (inr (n, most, grows)) others = record {
  part = Append name (take n piece) ∷ [];
  part_is = λ from. inr (n, refl);
  on = on_append name (take n piece);
  filed = added name (take n piece) (Some x) (Some y) grows others;
}

-- the file is as before, or was made and emptied
pub start_stops : {name : List ℕ} {before now : World} (why : OutFault) → now.left ≡ before.left → now.written ≡ before.written
    → Told before.held now.held (MayBeEmptied name) → Told before.held now.held (KeepsOthers name)
    → Stops (stop_by why stop.Files) (Start name ∷ []) before now
start_stops {name} {before} {now} why left written named others =
    file_stops (stops_start why name) left written (start_part name before.held now.held named others)

-- the file is as before, or a front of the piece was added
pub add_stops : {name piece : List ℕ} {before now : World} (why : OutFault) → now.left ≡ before.left → now.written ≡ before.written
    → Told before.held now.held (GrowsByPrefix piece name) → Told before.held now.held (KeepsOthers name)
    → Stops (stop_by why stop.Files) (Append name piece ∷ []) before now
add_stops {name} {piece} {before} {now} why left written named others =
    file_stops (stops_append why name piece) left written (append_part name piece before.held now.held named others)
