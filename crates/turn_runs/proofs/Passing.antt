-- Bytes of the input that are passed over.
use Rattle.std.proofs.Common.{◌≡◌, ℕ, zero, suc, ◌+◌, ◌-◌, ◌<◌, ◌≤◌, ◌⊎◌, Bool, true, IsTrue, List, [], ◌++◌, take, drop, length, Option, Some, None, IfSome, slice_get, refl, sym, ap, subst, ◌∙◌, arith, inl, inr, length-append, length-drop}
use Rattle.std.proofs.lemmas.List.{drop-drop, drop_all, length-take-le}
use Rattle.std.proofs.Math.Seq.{drop-append_seam}
use Rattle.std.specs.Io.KnownBytes.{Appends, Consumes, Keeps}
use Rattle.outside_io.specs.Content.{Held, Told}
use Rattle.outside_acts.specs.declared.Stop.{Stop}
use Rattle.outside_acts.specs.declared.Stop.TheVariants.{Input}
use Rattle.outside_acts.specs.Acts.{ReadTo, Did, DidCut, read, sent}
use Rattle.outside_acts.specs.Calls.{OnlyRead}
use Rattle.outside_acts.specs.World.{World}
use Rattle.turn_runs.specs.declared.feed.Feed.{Feed}
use Rattle.turn_runs.specs.Feeding.{HasPassed, byte_count, pass_acts}
use Rattle.outside_acts.proofs.Algebra.{IsFiled, did_none}
use Rattle.outside_acts.proofs.OneAct.{cut_one, did_read}

pub only_read_both : {a b c : World} → OnlyRead a b → OnlyRead b c → OnlyRead a c
only_read_both first second = record { written = second.written ∙ first.written; held = second.held ∙ first.held }

pass_read : (count : ℕ) → read (pass_acts count) 0 ≡ count
unfolding read
pass_read zero = refl
pass_read (suc n) = refl

-- nothing was read
did_not_read : {bytes : List ℕ} {a b : World} → OnlyRead a b → b.left ≡ Some bytes → Did bytes 0 [] a b
did_not_read {bytes} {a} {b} rest is =
    let none : Did bytes 0 [] b b = did_none b is in
    record {
      left_is = none.left_is;
      console = subst (λ (written : Option (List ℕ)). Appends written b.written (sent [])) rest.written none.console;
      files = subst (λ (held : Option Held). Told held b.held (IsFiled [])) rest.held none.files;
    }

-- so many were passed over
pass_did : {bytes : List ℕ} (count : ℕ) {a b : World} → OnlyRead a b → b.left ≡ Some (drop count bytes)
    → Did bytes 0 (pass_acts count) a b
pass_did zero rest is = did_not_read rest is
pass_did (suc n) rest is = did_read 0 rest is

-- all were passed over, or the input has ended
left_after : (bytes : List ℕ) (count passed : ℕ) (ended : Bool) (left : Option (List ℕ))
    → left ≡ Some (drop passed bytes) → (IsTrue ended → length bytes ≤ passed) → passed ≤ count
    → (ended ≡ true) ⊎ (passed ≡ count) → left ≡ Some (drop count bytes)
left_after bytes count passed ended left is end within (inl ends) =
    let past : length bytes ≤ passed = end ends in
    is ∙ ap (λ (zs : List ℕ). Some zs) (drop_all passed bytes past ∙ sym (drop_all count bytes (omega arith)))
left_after bytes count passed ended left is end within (inr same) = is ∙ ap (λ (n : ℕ). Some (drop n bytes)) same

-- it has ended where it had fewer bytes
end_met : (bytes : List ℕ) (count passed : ℕ) (ended : Bool) → passed ≤ length bytes → (ended ≡ true) ⊎ (passed ≡ count)
    → length bytes < count → IsTrue ended
end_met bytes count passed ended held (inl ends) few = ends
end_met bytes count passed ended held (inr same) few = absurd (omega (arith, held, same, few))

pub has_passed : {bytes : List ℕ} {count passed : ℕ} {feed : Feed} {a b : World} → OnlyRead a b
    → b.left ≡ Some (drop passed bytes) → (IsTrue feed.ended → length bytes ≤ passed) → passed ≤ length bytes
    → passed ≤ count → feed.byte ≡ None → (feed.ended ≡ true) ⊎ (passed ≡ count) → HasPassed bytes count feed a b
has_passed {bytes} {count} {passed} {feed} {a} {b} rest is end held within none done =
    let left : b.left ≡ Some (drop count bytes) = left_after bytes count passed feed.ended b.left is end within done in
    let did : Did bytes 0 (pass_acts count) a b = pass_did count rest left in
    let byte : count + byte_count feed.byte ≡ count + 0 = ap (λ (h : Option ℕ). count + byte_count h) none in
    let whole : count ≡ count + byte_count feed.byte = omega (arith, byte) in
    record {
      fed = record {
        fed = record {
          left_is = left ∙ ap (λ (n : ℕ). Some (drop n bytes)) whole;
          byte_is = subst (λ (h : Option ℕ). IfSome h (λ b. slice_get bytes count ≡ Some b)) (sym none) tt;
          ended_is = λ yes. (none, let past = end yes in omega (arith, past));
        };
        left_from = did.left_is;
        from_is = λ nothing on. pass_read count;
      };
      ended = end_met bytes count passed feed.ended held done;
      did = did;
    }

read_on : (bytes buf : List ℕ) (passed got : ℕ) (after : Option (List ℕ)) → got ≤ length buf
    → Consumes (Some (drop passed bytes)) after (take got buf) → after ≡ Some (drop (passed + got) bytes)
read_on bytes buf passed got None most consumed = absurd consumed
read_on bytes buf passed got (Some ys) most consumed =
    let long : length (take got buf) ≡ got = length-take-le got buf most in
    let front : drop got (take got buf ++ ys) ≡ drop (length (take got buf)) (take got buf ++ ys) =
    ap (λ (n : ℕ). drop n (take got buf ++ ys)) (sym long) in
    let rest : drop got (take got buf ++ ys) ≡ ys = front ∙ drop-append_seam (take got buf) ys in
    ap (λ (zs : List ℕ). Some zs) (sym (sym (drop-drop got passed bytes) ∙ ap (drop got) consumed ∙ rest))

pub passed_on : (bytes buf : List ℕ) (passed got : ℕ) (before after : Option (List ℕ))
    → before ≡ Some (drop passed bytes) → got ≤ length buf → Consumes before after (take got buf)
    → after ≡ Some (drop (passed + got) bytes)
passed_on bytes buf passed got before after is most consumed =
    let here : Consumes (Some (drop passed bytes)) after (take got buf) =
    subst (λ (o : Option (List ℕ)). Consumes o after (take got buf)) is consumed in
    read_on bytes buf passed got after most here

-- so many bytes are within the input
within_on : (bytes buf : List ℕ) (passed got : ℕ) (after : Option (List ℕ)) → got ≤ length buf → passed ≤ length bytes
    → Consumes (Some (drop passed bytes)) after (take got buf) → passed + got ≤ length bytes
within_on bytes buf passed got None most held consumed = absurd consumed
within_on bytes buf passed got (Some ys) most held consumed =
    let taken : length (take got buf) ≡ got = length-take-le got buf most in
    let both : length (drop passed bytes) ≡ length (take got buf ++ ys) = ap length consumed in
    let joined : length (take got buf ++ ys) ≡ length (take got buf) + length ys = length-append (take got buf) ys in
    let rest : length (drop passed bytes) ≡ length bytes - passed = length-drop passed bytes in
    omega (arith, taken, both, joined, rest, held)

pub passed_within : (bytes buf : List ℕ) (passed got : ℕ) (before after : Option (List ℕ))
    → before ≡ Some (drop passed bytes) → got ≤ length buf → passed ≤ length bytes → Consumes before after (take got buf)
    → passed + got ≤ length bytes
passed_within bytes buf passed got before after is most held consumed =
    within_on bytes buf passed got after most held (subst (λ (o : Option (List ℕ)). Consumes o after (take got buf)) is consumed)

kept_left : (left left' : Option (List ℕ)) (xs : List ℕ) → left ≡ Some xs → Keeps left left' → left' ≡ Some xs
kept_left None left' xs is keeps = cc
kept_left (Some ys) None xs is keeps = absurd keeps
kept_left (Some ys) (Some zs) xs is keeps = ap (λ (vs : List ℕ). Some vs) keeps ∙ is

-- the input failed where so many were passed over
pub pass_cut : {stop : Stop} {bytes : List ℕ} (count passed : ℕ) {a c : World} (b : World) → stop ≡ Input
    → OnlyRead a c → b.left ≡ Some (drop passed bytes) → Keeps b.left c.left → passed < count
    → DidCut stop bytes 0 (pass_acts count) a c
pass_cut zero passed b is_input rest is keeps within = absurd (omega arith)
pass_cut {stop} {bytes} (suc n) passed {a} {c} b is_input rest is keeps within =
    let left : c.left ≡ Some (drop passed bytes) = kept_left b.left c.left (drop passed bytes) is keeps in
    subst (λ (s : Stop). DidCut s bytes 0 (pass_acts (suc n)) a c) (sym is_input)
    (cut_one (ReadTo (suc n)) tt (passed, omega arith, within, refl) (did_read 0 rest left))
