-- Acts one after another: what they leave, and how a job of them is cut.
use Rattle.std.proofs.Common.{◌≡◌, ℕ, List, [], ◌∷◌, ◌++◌, length, take, drop, Option, Some, None, refl, sym, ap, subst, ◌∙◌, append_assoc, inl, inr}
use Rattle.std.proofs.lemmas.List.{append-nil, take-append-drop}
use Rattle.std.proofs.Math.Seq.{take-append_seam}
use Rattle.std.specs.Io.KnownBytes.{Appends}
use Rattle.outside_io.specs.Content.{Held, Told}
use Rattle.outside_io.proofs.StreamLemmas.{more_appended}
use Rattle.outside_acts.specs.declared.Stop.{Stop}
use Rattle.outside_acts.specs.Acts.{Act, ReadTo, Send, Start, Append, Did, DidCut, IsCut, IsPart, filed, filed_by, read, read_by, sent, sent_by}
use Rattle.outside_acts.specs.Calls.{Does}
use Rattle.outside_acts.specs.World.{World}

-- the files are as these acts leave them
abbrev pub IsFiled : List Act → Held → Held → Type 0
IsFiled acts before now = now ≡ filed acts before

-- ---- what two lists of acts leave, what no act leaves, and what one act leaves

pub sent_joined : (xs ys : List Act) → sent (xs ++ ys) ≡ sent xs ++ sent ys
unfolding sent
sent_joined [] ys = refl
sent_joined (x ∷ xs) ys =
    ap (λ (zs : List ℕ). sent_by x ++ zs) (sent_joined xs ys) ∙ sym (append_assoc (sent_by x) (sent xs) (sent ys))

pub filed_joined : (xs ys : List Act) (held : Held) → filed (xs ++ ys) held ≡ filed ys (filed xs held)
unfolding filed
filed_joined [] ys held = refl
filed_joined (x ∷ xs) ys held = filed_joined xs ys (filed_by x held)

pub read_joined : (xs ys : List Act) (from : ℕ) → read (xs ++ ys) from ≡ read ys (read xs from)
unfolding read
read_joined [] ys from = refl
read_joined (x ∷ xs) ys from = read_joined xs ys (read_by x from)

pub sent_none : sent [] ≡ []
unfolding sent
sent_none = refl

pub filed_none : (held : Held) → filed [] held ≡ held
unfolding filed
filed_none held = refl

pub read_none : (from : ℕ) → read [] from ≡ from
unfolding read
read_none from = refl

pub sent_one : (x : Act) → sent (x ∷ []) ≡ sent_by x
unfolding sent
sent_one x = append-nil (sent_by x)

pub filed_one : (x : Act) (held : Held) → filed (x ∷ []) held ≡ filed_by x held
unfolding filed
filed_one x held = refl

pub read_one : (x : Act) (from : ℕ) → read (x ∷ []) from ≡ read_by x from
unfolding read
read_one x from = refl

-- ---- what is told after no act, and after acts and more acts

pub told_none : (told : Option Held) → Told told told (IsFiled [])
told_none None = tt
told_none (Some held) = sym (filed_none held)

pub told_both : (xs ys : List Act) (a b c : Option Held) → Told a b (IsFiled xs) → Told b c (IsFiled ys)
    → Told a c (IsFiled (xs ++ ys))
told_both xs ys None b c first second = tt
told_both xs ys (Some x) None c first second = absurd first
told_both xs ys (Some x) (Some y) None first second = absurd second
told_both xs ys (Some x) (Some y) (Some z) first second = second ∙ ap (filed ys) first ∙ sym (filed_joined xs ys x)

pub appends_none : (told : Option (List ℕ)) → Appends told told []
appends_none None = tt
appends_none (Some xs) = sym (append-nil xs)

-- ---- acts that were done

-- over a world that stays, no act was done
pub did_none : {bytes : List ℕ} {from : ℕ} (a : World) → a.left ≡ Some (drop from bytes) → Did bytes from [] a a
did_none {bytes} {from} a is = record {
  left_is = is ∙ ap (λ (n : ℕ). Some (drop n bytes)) (sym (read_none from));
  console = subst (λ (zs : List ℕ). Appends a.written a.written zs) (sym sent_none) (appends_none a.written);
  files = told_none a.held;
}

-- acts were done, and then more acts
pub did_both : {bytes : List ℕ} {from : ℕ} {xs ys : List Act} {a b c : World}
    → Did bytes from xs a b → Did bytes (read xs from) ys b c → Did bytes from (xs ++ ys) a c
did_both {bytes} {from} {xs} {ys} {a} {b} {c} first second =
    let both = more_appended a.written b.written c.written (sent xs) (sent ys) first.console second.console in
    record {
      left_is = second.left_is ∙ ap (λ (n : ℕ). Some (drop n bytes)) (sym (read_joined xs ys from));
      console = subst (λ (zs : List ℕ). Appends a.written c.written zs) (sym (sent_joined xs ys)) both;
      files = told_both xs ys a.held b.held c.held first.files second.files;
    }

pub does_none : (a : World) → Does [] a a
does_none a = λ bytes from is. did_none a is

pub does_both : {xs ys : List Act} {a b c : World} → Does xs a b → Does ys b c → Does (xs ++ ys) a c
does_both first second = λ bytes from is.
    let did = first bytes from is in
    did_both did (second bytes _ did.left_is)

-- ---- acts that were cut

-- the cut comes after acts that were done
pub cut_later : {stop : Stop} {from : ℕ} {ys left : List Act} (xs : List Act)
    → IsCut stop (read xs from) ys left → IsCut stop from (xs ++ ys) (xs ++ left)
cut_later {stop} {from} {ys} {left} xs cut = record {
  done = xs ++ cut.done;
  next = cut.next;
  rest = cut.rest;
  part = cut.part;
  acts_are = ap (λ (zs : List Act). xs ++ zs) cut.acts_are ∙ sym (append_assoc xs cut.done (cut.next ∷ cut.rest));
  stops = cut.stops;
  part_is = subst (λ (n : ℕ). IsPart n cut.next cut.part) (sym (read_joined xs cut.done from)) cut.part_is;
  left_are = ap (λ (zs : List Act). xs ++ zs) cut.left_are ∙ sym (append_assoc xs cut.done cut.part);
}

-- the cut comes before acts that were still to come
pub cut_sooner : {stop : Stop} {from : ℕ} {xs left : List Act} (ys : List Act)
    → IsCut stop from xs left → IsCut stop from (xs ++ ys) left
cut_sooner {stop} {from} {xs} {left} ys cut = record {
  done = cut.done;
  next = cut.next;
  rest = cut.rest ++ ys;
  part = cut.part;
  acts_are = ap (λ (zs : List Act). zs ++ ys) cut.acts_are ∙ append_assoc cut.done (cut.next ∷ cut.rest) ys;
  stops = cut.stops;
  part_is = cut.part_is;
  left_are = cut.left_are;
}

pub did_cut_later : {stop : Stop} {bytes : List ℕ} {from : ℕ} {xs ys : List Act} {a b c : World}
    → Did bytes from xs a b → DidCut stop bytes (read xs from) ys b c → DidCut stop bytes from (xs ++ ys) a c
did_cut_later {xs = xs} first second = record {
  front = xs ++ second.front;
  cut = cut_later xs second.cut;
  did = did_both first second.did;
}

pub did_cut_sooner : {stop : Stop} {bytes : List ℕ} {from : ℕ} {xs : List Act} {a b : World} (ys : List Act)
    → DidCut stop bytes from xs a b → DidCut stop bytes from (xs ++ ys) a b
did_cut_sooner ys cut = record { front = cut.front; cut = cut_sooner ys cut.cut; did = cut.did }

-- ---- the console after a cut

-- a part of an act sends a front of what the act sends
part_front : (from : ℕ) (next : Act) (part : List Act) → IsPart from next part → (n : ℕ) × (sent part ≡ take n (sent_by next))
unfolding sent
part_front from (ReadTo m) part is = (0, ap sent is.3)
part_front from (Send bytes) part (n, is) = (n, ap sent is ∙ append-nil (take n bytes))
part_front from (Start name) part (inl is) = (0, ap sent is)
part_front from (Start name) part (inr is) = (0, ap sent is)
part_front from (Append name bytes) part (inl is) = (0, ap sent is)
part_front from (Append name bytes) part (inr (n, is)) = (0, ap sent is)

-- bytes of which a front is split off in the middle
split_at : (xs ys zs : List ℕ) (n : ℕ) → xs ++ (ys ++ zs) ≡ (xs ++ take n ys) ++ (drop n ys ++ zs)
split_at xs ys zs n =
    ap (λ (vs : List ℕ). xs ++ (vs ++ zs)) (sym (take-append-drop n ys))
    ∙ ap (λ (vs : List ℕ). xs ++ vs) (append_assoc (take n ys) (drop n ys) zs)
    ∙ sym (append_assoc xs (take n ys) (drop n ys ++ zs))

-- what acts send is what their cut sends, and more
more_sent : {stop : Stop} {from : ℕ} {acts left : List Act} → IsCut stop from acts left
    → (more : List ℕ) × (sent acts ≡ sent left ++ more)
unfolding sent
more_sent {stop} {from} {acts} {left} cut =
    let part = part_front (read cut.done from) cut.next cut.part cut.part_is in
    let more : List ℕ = drop part.0 (sent_by cut.next) ++ sent cut.rest in
    let front : sent left ≡ sent cut.done ++ take part.0 (sent_by cut.next) =
    ap sent cut.left_are ∙ sent_joined cut.done cut.part ∙ ap (λ (zs : List ℕ). sent cut.done ++ zs) part.1 in
    let whole : sent acts ≡ sent cut.done ++ (sent_by cut.next ++ sent cut.rest) =
    ap sent cut.acts_are ∙ sent_joined cut.done (cut.next ∷ cut.rest) in
    let split = split_at (sent cut.done) (sent_by cut.next) (sent cut.rest) part.0 in
    (more, whole ∙ split ∙ ap (λ (zs : List ℕ). zs ++ more) (sym front))

-- a cut sends a front of what the whole list sends
pub front_sent : {stop : Stop} {from : ℕ} {acts left : List Act} → IsCut stop from acts left
    → (n : ℕ) × (sent left ≡ take n (sent acts))
front_sent {stop} {from} {acts} {left} cut =
    let more = more_sent cut in
    let n : ℕ = length (sent left) in
    (n, sym (take-append_seam (sent left) more.0) ∙ ap (λ (zs : List ℕ). take n zs) (sym more.1))

-- and so the console got a front of it
pub front_written : {stop : Stop} {bytes : List ℕ} {from : ℕ} {acts : List Act} {before now : World}
    → DidCut stop bytes from acts before now → (n : ℕ) × Appends before.written now.written (take n (sent acts))
front_written {before = before} {now = now} cut =
    let front = front_sent cut.cut in
    (front.0, subst (λ (zs : List ℕ). Appends before.written now.written zs) front.1 cut.did.console)
