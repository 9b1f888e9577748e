-- What a judge has taken of the input, and where its judging stops.
use Rattle.std.proofs.Common.{◌≡◌, ℕ, ◌+◌, ◌-◌, ◌<◌, ◌≤◌, ◌⊎◌, Bool, true, false, List, [], ◌∷◌, ◌++◌, length, take, drop, refl, sym, ap, subst, ◌∙◌, arith, inl, inr, append_assoc, length-append}
use Rattle.std.specs.Prelude.{Option, Some, None}
use Rattle.std.proofs.lemmas.List.{append-nil, drop_all, take_all, take-append-drop, take-append-le}
use Rattle.std.proofs.Math.Seq.{drop-append_seam}
use Rattle.std.specs.Io.KnownBytes.{Consumes, IsAtEnd, Keeps}
use Rattle.hart_step.specs.Harts.{CoreState}
use Rattle.cosim_check.specs.declared.verdict.Verdict.{Verdict}
use Rattle.cosim_check.specs.declared.verdict.Verdict.TheVariants.{Passing, Disallowed, BadLine, TooMany}
use Rattle.cosim_check.specs.Standing.{JudgeState, StandsFor}
use Rattle.cosim_check.specs.Verdicts.{IsFinal, verdict_of}
use Rattle.cosim_check.specs.Places.{At, places, verdict_at}
use Rattle.cosim_check.proofs.Streams.{passing_at, stays_so, verdict_placed}
use Rattle.outside_acts.specs.declared.Stop.{Stop}
use Rattle.outside_acts.specs.declared.Stop.TheVariants.{Input}
use Rattle.outside_acts.specs.Acts.{ReadTo, DidCut}
use Rattle.outside_acts.specs.Calls.{OnlyRead}
use Rattle.outside_acts.specs.World.{World}
use Rattle.outside_acts.proofs.OneAct.{cut_one, did_read}
use Rattle.stream_judge.specs.Judging.{IsJudged, IsPassing, IsReadTo, JudgingStops, PassesSoFar, most_records, stream_verdict}

-- ---- verdicts

-- a verdict is Passing, or it stays
passing_or_final : (v : Verdict) → IsPassing v ⊎ IsFinal v
passing_or_final (Passing n) = inl tt
passing_or_final (Disallowed n field allowed given) = inr tt
passing_or_final (BadLine n column) = inr tt
passing_or_final (TooMany n) = inr tt

pub final_unless : (v : Verdict) → ((n : ℕ) → v ≡ Passing n → ⊥) → IsFinal v
final_unless (Passing n) other = other n refl
final_unless (Disallowed n field allowed given) other = tt
final_unless (BadLine n column) other = tt
final_unless (TooMany n) other = tt

not_both : (v : Verdict) → IsFinal v → IsPassing v → ⊥
not_both (Passing n) last passes = last
not_both (Disallowed n field allowed given) last passes = passes
not_both (BadLine n column) last passes = passes
not_both (TooMany n) last passes = passes

-- a verdict that stays is that of the whole stream
whole_is : (core : CoreState) (tohost : ℕ) (front later bytes : List ℕ) (v : Verdict) → v ≡ verdict_of core tohost most_records front false
    → IsFinal v → bytes ≡ front ++ later → v ≡ stream_verdict core tohost bytes
whole_is core tohost front later bytes v is last joined =
    sym (stays_so core tohost most_records front v (sym is) last later true) ∙ ap (λ (zs : List ℕ). stream_verdict core tohost zs) (sym joined)

front_cases : (core : CoreState) (tohost : ℕ) (front later : List ℕ) (ended : Bool) → (v : Verdict) → verdict_of core tohost most_records front false ≡ v
    → IsPassing (verdict_of core tohost most_records (front ++ later) ended) → IsPassing v ⊎ IsFinal v → IsPassing v
front_cases core tohost front later ended v is passes (inl yes') = yes'
front_cases core tohost front later ended v is passes (inr last) =
    absurd (not_both v last (subst IsPassing (stays_so core tohost most_records front v is last later ended) passes))

-- a front of a stream that passes passes
front_passes : (core : CoreState) (tohost : ℕ) (bytes : List ℕ) (ended : Bool) (n : ℕ) → IsPassing (verdict_of core tohost most_records bytes ended)
    → IsPassing (verdict_of core tohost most_records (take n bytes) false)
front_passes core tohost bytes ended n passes =
    let v : Verdict = verdict_of core tohost most_records (take n bytes) false in
    let whole : IsPassing (verdict_of core tohost most_records (take n bytes ++ drop n bytes) ended) =
    subst (λ (zs : List ℕ). IsPassing (verdict_of core tohost most_records zs ended)) (sym (take-append-drop n bytes)) passes in
    front_cases core tohost (take n bytes) (drop n bytes) ended v refl whole (passing_or_final v)

passes_at : (tohost l : ℕ) (core : CoreState) → IsPassing (verdict_at tohost false (At l core 0 []))
passes_at tohost l core = subst IsPassing (sym (passing_at tohost l core 0 [])) tt

-- no byte passes
passes_first : (tohost l : ℕ) (core : CoreState) → IsPassing (verdict_at tohost false (places tohost (At l core 0 []) []))
unfolding places
passes_first tohost l core = passes_at tohost l core

-- ---- how far a stream is read

-- a stream that passes so far, to its end
read_whole : (core : CoreState) (tohost : ℕ) (bytes : List ℕ) (ended : Bool) → IsPassing (verdict_of core tohost most_records bytes ended)
    → IsReadTo core tohost bytes (length bytes + 1)
read_whole core tohost bytes ended passes = record {
  passing = front_passes core tohost bytes ended (length bytes + 1 - 4096) passes;
  whole = λ all. omega arith;
}

-- a stream that does not pass, at most a piece after bytes that pass
read_into : {core : CoreState} {tohost : ℕ} {bytes : List ℕ} (taken rest : List ℕ) (count : ℕ) → bytes ≡ taken ++ rest → count ≤ length taken + 4096
    → IsPassing (verdict_of core tohost most_records taken false) → (IsPassing (stream_verdict core tohost bytes) → ⊥)
    → IsReadTo core tohost bytes count
read_into {core} {tohost} {bytes} taken rest count joined near passes refused =
    let n : ℕ = count - 4096 in
    let same : take n bytes ≡ take n taken = ap (λ (zs : List ℕ). take n zs) joined ∙ take-append-le n taken rest (omega (arith, near)) in
    record {
      passing = subst (λ (zs : List ℕ). IsPassing (verdict_of core tohost most_records zs false)) (sym same) (front_passes core tohost taken false n passes);
      whole = λ all. absurd (refused all);
    }

-- ---- what a judge has taken

-- a judge took bytes of the input, which all passed; nothing else changed
pub record HasTaken (core : CoreState) (tohost : ℕ) (judge : JudgeState) (before now : World) : Type 0 where
  pub taken : List ℕ
  pub stands : StandsFor judge core taken
  pub passing : IsPassing judge.verdict
  pub tohost_is : judge.tohost ≡ tohost
  pub most_is : judge.most ≡ most_records
  pub consumed : Consumes before.left now.left taken
  pub rest : OnlyRead before now

only_read_both : {a b c : World} → OnlyRead a b → OnlyRead b c → OnlyRead a c
only_read_both first second = record { written = second.written ∙ first.written; held = second.held ∙ first.held }

consumed_none : (left : Option (List ℕ)) → Consumes left left []
consumed_none None = tt
consumed_none (Some xs) = refl

consumed_both : (a b c : Option (List ℕ)) (xs ys : List ℕ) → Consumes a b xs → Consumes b c ys → Consumes a c (xs ++ ys)
consumed_both None b c xs ys first second = tt
consumed_both (Some as') None c xs ys first second = absurd first
consumed_both (Some as') (Some bs) None xs ys first second = absurd second
consumed_both (Some as') (Some bs) (Some cs) xs ys first second =
    first ∙ ap (λ (zs : List ℕ). xs ++ zs) second ∙ sym (append_assoc xs ys cs)

-- of told bytes these were consumed, and the rest is left
record Left (bytes taken : List ℕ) (left : Option (List ℕ)) : Type 0 where
  rest : List ℕ
  joined : bytes ≡ taken ++ rest
  left_is : left ≡ Some rest

left_after : (before now : Option (List ℕ)) (bytes taken : List ℕ) → before ≡ Some bytes → Consumes before now taken → Left bytes taken now
left_after None now bytes taken is consumed = absurd cc
left_after (Some xs) None bytes taken is consumed = absurd consumed
left_after (Some xs) (Some ys) bytes taken is consumed =
    let same : bytes ≡ xs = cc in
    record { rest = ys; joined = same ∙ consumed; left_is = refl }

-- what is left stands behind so many bytes
left_drop : {bytes taken : List ℕ} {left : Option (List ℕ)} → Left bytes taken left → left ≡ Some (drop (length taken) bytes)
left_drop {bytes} {taken} l =
    l.left_is ∙ ap (λ (zs : List ℕ). Some zs) (sym (drop-append_seam taken l.rest) ∙ ap (λ (zs : List ℕ). drop (length taken) zs) (sym l.joined))

kept_left : (left left' : Option (List ℕ)) (xs : List ℕ) → left ≡ Some xs → Keeps left left' → left' ≡ Some xs
kept_left None left' xs is keeps = cc
kept_left (Some ys) None xs is keeps = absurd keeps
kept_left (Some ys) (Some zs) xs is keeps = ap (λ (vs : List ℕ). Some vs) keeps ∙ is

-- the verdict on the stream of which a judge took so much, with its host window and its limit
stream_is : {tohost : ℕ} (judge : JudgeState) (core : CoreState) (bytes : List ℕ) (ended : Bool) → judge.tohost ≡ tohost
    → judge.most ≡ most_records → verdict_of core judge.tohost judge.most bytes ended ≡ verdict_of core tohost most_records bytes ended
stream_is {tohost} judge core bytes ended window limit =
    ap (λ (t : ℕ). verdict_of core t judge.most bytes ended) window ∙ ap (λ (m : ℕ). verdict_of core tohost m bytes ended) limit

taken_passes : {core : CoreState} {tohost : ℕ} {judge : JudgeState} {before now : World} → (h : HasTaken core tohost judge before now)
    → IsPassing (verdict_of core tohost most_records h.taken false)
taken_passes {core} {tohost} {judge} h =
    subst IsPassing (h.stands.verdict ∙ stream_is judge core h.taken false h.tohost_is h.most_is) h.passing

-- a judge that was fed one more piece of the input, and found nothing
pub taken_on : {core : CoreState} {tohost : ℕ} {judge judge' : JudgeState} {before here now : World} (piece : List ℕ)
    → (h : HasTaken core tohost judge before here) → OnlyRead here now → Consumes here.left now.left piece
    → StandsFor judge' core (h.taken ++ piece) → judge'.tohost ≡ judge.tohost → judge'.most ≡ judge.most → IsPassing judge'.verdict
    → HasTaken core tohost judge' before now
taken_on {before = before} {here = here} {now = now} piece h rest consumed stands window limit passes = record {
  taken = h.taken ++ piece;
  stands = stands;
  passing = passes;
  tohost_is = window ∙ h.tohost_is;
  most_is = limit ∙ h.most_is;
  consumed = consumed_both before.left here.left now.left h.taken piece h.consumed consumed;
  rest = only_read_both h.rest rest;
}

-- ---- where the judging stops

end_nil : (left : Option (List ℕ)) (rest : List ℕ) → left ≡ Some rest → IsAtEnd left → rest ≡ []
end_nil None rest is end = absurd cc
end_nil (Some xs) rest is end = let same : xs ≡ rest = cc in sym same ∙ end

-- the input has ended
pub judged_at_end : {core : CoreState} {tohost : ℕ} {judge : JudgeState} {before here now : World} (piece : List ℕ) (verdict : Verdict)
    → (h : HasTaken core tohost judge before here) → OnlyRead here now → Consumes here.left now.left piece → piece ≡ []
    → IsAtEnd now.left → verdict ≡ verdict_of core judge.tohost judge.most h.taken true
    → (bytes : List ℕ) → before.left ≡ Some bytes → IsJudged core tohost bytes verdict before now
judged_at_end {core} {tohost} {judge} {before} {here} {now} piece verdict h rest consumed nil end answer bytes is =
    let both = consumed_both before.left here.left now.left h.taken piece h.consumed consumed in
    let l = left_after before.left now.left bytes (h.taken ++ piece) is both in
    let none : l.rest ≡ [] = end_nil now.left l.rest l.left_is end in
    let whole : bytes ≡ h.taken =
    l.joined ∙ ap (λ (zs : List ℕ). (h.taken ++ piece) ++ zs) none ∙ append-nil (h.taken ++ piece)
    ∙ ap (λ (zs : List ℕ). h.taken ++ zs) nil ∙ append-nil h.taken in
    let passes : IsPassing (verdict_of core tohost most_records bytes false) =
    subst (λ (zs : List ℕ). IsPassing (verdict_of core tohost most_records zs false)) (sym whole) (taken_passes h) in
    let gone : l.rest ≡ drop (length bytes + 1) bytes = none ∙ sym (drop_all (length bytes + 1) bytes (omega arith)) in
    record {
      verdict_is = answer ∙ stream_is judge core h.taken true h.tohost_is h.most_is ∙ ap (λ (zs : List ℕ). stream_verdict core tohost zs) (sym whole);
      count = length bytes + 1;
      far = read_whole core tohost bytes false passes;
      did = did_read 0 (only_read_both h.rest rest) (l.left_is ∙ ap (λ (zs : List ℕ). Some zs) gone);
    }

-- a verdict that stays was found
pub judged_before : {core : CoreState} {tohost : ℕ} {judge : JudgeState} {before here now : World} (piece : List ℕ) (verdict : Verdict)
    → (h : HasTaken core tohost judge before here) → OnlyRead here now → Consumes here.left now.left piece → length piece ≤ 4096
    → verdict ≡ verdict_of core judge.tohost judge.most (h.taken ++ piece) false → IsFinal verdict
    → (bytes : List ℕ) → before.left ≡ Some bytes → IsJudged core tohost bytes verdict before now
judged_before {core} {tohost} {judge} {before} {here} {now} piece verdict h rest consumed near answer last bytes is =
    let both = consumed_both before.left here.left now.left h.taken piece h.consumed consumed in
    let l = left_after before.left now.left bytes (h.taken ++ piece) is both in
    let whole : verdict ≡ stream_verdict core tohost bytes =
    whole_is core tohost (h.taken ++ piece) l.rest bytes verdict (answer ∙ stream_is judge core (h.taken ++ piece) false h.tohost_is h.most_is) last l.joined in
    let long = length-append h.taken piece in
    record {
      verdict_is = whole;
      count = length (h.taken ++ piece);
      far = read_into h.taken (piece ++ l.rest) (length (h.taken ++ piece)) (l.joined ∙ append_assoc h.taken piece l.rest) (omega (arith, long, near)) (taken_passes h)
          (λ passes. not_both verdict last (subst IsPassing (sym whole) passes));
      did = did_read 0 (only_read_both h.rest rest) (left_drop l);
    }

cut_at : {stop : Stop} {bytes : List ℕ} {before now : World} (taken count : ℕ) → stop ≡ Input → taken < count → OnlyRead before now
    → now.left ≡ Some (drop taken bytes) → DidCut stop bytes 0 (ReadTo count ∷ []) before now
cut_at {stop} {bytes} {before} {now} taken count is_input within rest left =
    subst (λ (s : Stop). DidCut s bytes 0 (ReadTo count ∷ []) before now) (sym is_input)
    (cut_one (ReadTo count) tt (taken, omega arith, within, refl) (did_read 0 rest left))

-- what was taken is the front of the stream before one byte more
taken_front : (taken rest bytes : List ℕ) → bytes ≡ taken ++ rest → take (length taken + 1 - 1) bytes ≡ taken
taken_front taken rest bytes joined =
    let n : ℕ = length taken + 1 - 1 in
    ap (λ (zs : List ℕ). take n zs) joined ∙ take-append-le n taken rest (omega arith) ∙ take_all n taken (omega arith)

-- the input failed
pub judging_stops : {stop : Stop} {core : CoreState} {tohost : ℕ} {judge : JudgeState} {before here now : World} → (h : HasTaken core tohost judge before here)
    → stop ≡ Input → OnlyRead here now → Keeps here.left now.left
    → (bytes : List ℕ) → before.left ≡ Some bytes → JudgingStops stop core tohost bytes before now
judging_stops {core = core} {tohost} {judge} {before} {here} {now} h is_input rest keeps bytes is =
    let l = left_after before.left here.left bytes h.taken is h.consumed in
    let left = kept_left here.left now.left (drop (length h.taken) bytes) (left_drop l) keeps in
    record {
      count = length h.taken + 1;
      passed = subst (λ (zs : List ℕ). IsPassing (verdict_of core tohost most_records zs false)) (sym (taken_front h.taken l.rest bytes l.joined)) (taken_passes h);
      cut = cut_at (length h.taken) (length h.taken + 1) is_input (omega arith) (only_read_both h.rest rest) left;
    }

-- ---- the first bytes

-- a judge that has taken nothing
pub none_taken : {core : CoreState} {tohost : ℕ} {judge : JudgeState} (world : World) → StandsFor judge core [] → judge.tohost ≡ tohost
    → judge.most ≡ most_records → HasTaken core tohost judge world world
none_taken {core} {tohost} {judge} world stands window limit = record {
  taken = [];
  stands = stands;
  passing = subst IsPassing (sym (stands.verdict ∙ verdict_placed core judge.tohost judge.most [] false)) (passes_first judge.tohost judge.most core);
  tohost_is = window;
  most_is = limit;
  consumed = consumed_none world.left;
  rest = record { written = refl; held = refl };
}

-- before the first byte all passed
pub none_passed : (core : CoreState) (tohost : ℕ) (bytes : List ℕ) → PassesSoFar core tohost bytes 0
none_passed core tohost bytes = subst IsPassing (sym (verdict_placed core tohost most_records [] false)) (passes_first tohost most_records core)
