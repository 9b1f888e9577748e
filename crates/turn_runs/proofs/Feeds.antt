-- The next byte of the input.
use Rattle.std.proofs.Common.{◌≡◌, ◌≢◌, ℕ, zero, suc, ◌+◌, ◌≤◌, Bool, true, false, not, ◌==◌, if◌then◌else◌, List, [], ◌∷◌, ◌++◌, length, take, drop, get_or, Option, Some, None, IfSome, is_some, IsTrue, slice_get, refl, ap, sym, ◌∙◌, subst, arith, inl, inr, ◌⊎◌, eqb}
use Rattle.std.specs.Io.KnownBytes.{Consumes, IsAtEnd}
use Rattle.std.proofs.lemmas.List.{drop-drop, drop_all, length-drop}
use Rattle.std.proofs.lemmas.Bool.{eqb-true, false≢true}
use Rattle.std.proofs.lemmas.Bool.Decides.{eqb_tells}
use Rattle.std.proofs.lemmas.Option.{slice_get_past}
use Rattle.outside_acts.specs.Calls.{OnlyRead}
use Rattle.outside_acts.specs.World.{World}
use Rattle.turn_runs.specs.declared.feed.Feed.{Feed}
use Rattle.turn_runs.specs.Feeding.{Fills, IsFed, IsFilled, byte_count}

-- ---- lists

next_is : (bytes : List ℕ) (taken b : ℕ) (ys : List ℕ) → drop taken bytes ≡ b ∷ ys → slice_get bytes taken ≡ Some b
next_is [] zero b ys is = cc
next_is [] (suc n) b ys is = cc
next_is (x ∷ xs) zero b ys is = ap (λ (zs : List ℕ). slice_get zs 0) is
next_is (x ∷ xs) (suc n) b ys is = next_is xs n b ys is

rest_is : (bytes : List ℕ) (taken b : ℕ) (ys : List ℕ) → drop taken bytes ≡ b ∷ ys → drop (taken + 1) bytes ≡ ys
rest_is bytes taken b ys is = sym (drop-drop 1 taken bytes) ∙ ap (λ (zs : List ℕ). drop 1 zs) is

none_left : (bytes : List ℕ) (taken : ℕ) → drop taken bytes ≡ [] → length bytes ≤ taken
none_left bytes taken is =
    let long = length-drop taken bytes in
    let none : length (drop taken bytes) ≡ 0 = ap (λ (zs : List ℕ). length zs) is in
    omega (arith, long, none)

-- past the end nothing is left
left_past : (bytes : List ℕ) (n : ℕ) → length bytes ≤ n → Some [] ≡ Some (drop n bytes)
left_past bytes n past = ap (λ (zs : List ℕ). Some zs) (sym (drop_all n bytes past))

-- ---- a byte that was read, or an input that has ended

ByteIs : List ℕ → ℕ → Option ℕ → Type 0
ByteIs bytes taken byte = IfSome byte (λ b. slice_get bytes taken ≡ Some b)

byte_filled : (bytes : List ℕ) (taken : ℕ) (feed : Feed) (left : Option (List ℕ)) (byte : Option ℕ) → feed.byte ≡ byte
    → is_some byte ≡ true → IsFed bytes taken feed left → IsFilled bytes taken feed left
unfolding ByteIs
byte_filled bytes taken feed left None is some fed = cc
byte_filled bytes taken feed left (Some b) is some fed =
    let next : slice_get bytes taken ≡ Some b = subst (ByteIs bytes taken) is fed.byte_is in
    record {
      next_is = is ∙ sym next;
      left_is = fed.left_is ∙ ap (λ (h : Option ℕ). Some (drop (taken + byte_count h) bytes)) is;
      fed = fed;
    }

ended_filled : (bytes : List ℕ) (taken : ℕ) (feed : Feed) (left : Option (List ℕ)) → feed.ended ≡ true
    → IsFed bytes taken feed left → IsFilled bytes taken feed left
ended_filled bytes taken feed left ended fed =
    let none = (fed.ended_is ended).0 in
    let past : length bytes ≤ taken = (fed.ended_is ended).1 in
    let here = left_past bytes (taken + byte_count feed.byte) (omega arith) in
    record {
      next_is = none ∙ sym (slice_get_past bytes taken past);
      left_is = fed.left_is ∙ sym here ∙ left_past bytes (taken + 1) (omega arith);
      fed = fed;
    }

-- there is a byte, or the input has ended
pub kept_fills : (feed : Feed) (a : World) → (is_some feed.byte ≡ true) ⊎ (feed.ended ≡ true) → Fills feed feed a a
kept_fills feed a (inl some) = record {
  filled = λ bytes taken fed. byte_filled bytes taken feed a.left feed.byte refl some fed;
  ended = λ none. cc;
  rest = record { written = refl; held = refl };
}
kept_fills feed a (inr ended) = record {
  filled = λ bytes taken fed. ended_filled bytes taken feed a.left ended fed;
  ended = λ none. ended;
  rest = record { written = refl; held = refl };
}

-- ---- a byte that is read

-- of an input of which there is no byte, all but what was taken is left
left_whole : (bytes : List ℕ) (taken : ℕ) (feed : Feed) (left : Option (List ℕ)) → feed.byte ≡ None
    → IsFed bytes taken feed left → left ≡ Some (drop taken bytes)
left_whole bytes taken feed left none fed =
    let count : taken + byte_count feed.byte ≡ taken = ap (λ (h : Option ℕ). taken + byte_count h) none ∙ omega arith in
    fed.left_is ∙ ap (λ (n : ℕ). Some (drop n bytes)) count

at_end : (xs : List ℕ) (now : Option (List ℕ)) → Consumes (Some xs) now [] → IsAtEnd now → (xs ≡ []) × (now ≡ Some [])
at_end xs None consumed ended = absurd consumed
at_end xs (Some ys) consumed ended = (consumed ∙ ended, ap (λ (zs : List ℕ). Some zs) ended)

end_filled : (bytes : List ℕ) (taken : ℕ) (feed : Feed) (before now : Option (List ℕ)) → feed.byte ≡ None
    → Consumes before now [] → IsAtEnd now → IsFed bytes taken feed before
    → IsFilled bytes taken (record { byte = feed.byte; ended = true }) now
end_filled bytes taken feed before now none consumed ended fed =
    let whole = left_whole bytes taken feed before none fed in
    let here : Consumes (Some (drop taken bytes)) now [] =
    subst (λ (o : Option (List ℕ)). Consumes o now []) whole consumed in
    let both = at_end (drop taken bytes) now here ended in
    let past : length bytes ≤ taken = none_left bytes taken both.0 in
    record {
      next_is = none ∙ sym (slice_get_past bytes taken past);
      left_is = both.1 ∙ left_past bytes (taken + 1) (omega arith);
      fed = record {
        left_is = both.1 ∙ left_past bytes (taken + byte_count feed.byte) (omega arith);
        byte_is = fed.byte_is;
        ended_is = λ yes. (none, past);
      };
    }

one_read : (xs ys buf : List ℕ) (count : ℕ) → xs ≡ take count buf ++ ys → length buf ≡ 1 → count ≤ 1
    → (count ≡ 0 → ⊥) → xs ≡ get_or buf 0 0 ∷ ys
one_read xs ys [] count is one most some = absurd (omega arith)
one_read xs ys (b ∷ []) zero is one most some = absurd (some refl)
one_read xs ys (b ∷ []) (suc zero) is one most some = is
one_read xs ys (b ∷ []) (suc (suc n)) is one most some = absurd (omega arith)
one_read xs ys (b ∷ c ∷ more) count is one most some = absurd (omega arith)

after_one : (bytes buf : List ℕ) (taken count : ℕ) (ended : Bool) (now : Option (List ℕ)) → ended ≡ false
    → Consumes (Some (drop taken bytes)) now (take count buf) → length buf ≡ 1 → count ≤ 1 → (count ≡ 0 → ⊥)
    → IsFilled bytes taken (record { byte = Some (get_or buf 0 0); ended = ended }) now
after_one bytes buf taken count ended None goes consumed one most some = absurd consumed
after_one bytes buf taken count ended (Some ys) goes consumed one most some =
    let is : drop taken bytes ≡ get_or buf 0 0 ∷ ys = one_read (drop taken bytes) ys buf count consumed one most some in
    let next : slice_get bytes taken ≡ Some (get_or buf 0 0) = next_is bytes taken _ ys is in
    let rest : Some ys ≡ Some (drop (taken + 1) bytes) =
    ap (λ (zs : List ℕ). Some zs) (sym (rest_is bytes taken _ ys is)) in
    record {
      next_is = sym next;
      left_is = rest;
      fed = record { left_is = rest; byte_is = next; ended_is = λ yes. absurd (false≢true (sym goes ∙ yes)) };
    }

one_filled : (bytes buf : List ℕ) (taken count : ℕ) (feed : Feed) (before now : Option (List ℕ)) → feed.byte ≡ None
    → feed.ended ≡ false → Consumes before now (take count buf) → length buf ≡ 1 → count ≤ 1 → (count ≡ 0 → ⊥)
    → IsFed bytes taken feed before
    → IsFilled bytes taken (record { byte = Some (get_or buf 0 0); ended = feed.ended }) now
one_filled bytes buf taken count feed before now none goes consumed one most some fed =
    let whole = left_whole bytes taken feed before none fed in
    let here : Consumes (Some (drop taken bytes)) now (take count buf) =
    subst (λ (o : Option (List ℕ)). Consumes o now (take count buf)) whole consumed in
    after_one bytes buf taken count feed.ended now goes here one most some

-- the input has ended
pub end_fills : {feed : Feed} {a b : World} → feed.byte ≡ None → OnlyRead a b → Consumes a.left b.left []
    → IsAtEnd b.left → Fills feed (record { byte = feed.byte; ended = true }) a b
end_fills {feed} {a} {b} none rest consumed ended = record {
  filled = λ bytes taken fed. end_filled bytes taken feed a.left b.left none consumed ended fed;
  ended = λ nothing. refl;
  rest = rest;
}

-- one byte was read
pub one_fills : {feed : Feed} {a b : World} (buf : List ℕ) (count : ℕ) → feed.byte ≡ None → feed.ended ≡ false
    → OnlyRead a b → Consumes a.left b.left (take count buf) → length buf ≡ 1 → count ≤ 1 → (count ≡ 0 → ⊥)
    → Fills feed (record { byte = Some (get_or buf 0 0); ended = feed.ended }) a b
one_fills {feed} {a} {b} buf count none goes rest consumed one most some = record {
  filled = λ bytes taken fed. one_filled bytes buf taken count feed a.left b.left none goes consumed one most some fed;
  ended = λ nothing. cc;
  rest = rest;
}

pub no_byte : (byte : Option ℕ) → is_some byte ≡ false → byte ≡ None
no_byte None is = refl
no_byte (Some b) is = cc

-- ---- after a turn

-- the turn took the byte
fed_on : (bytes : List ℕ) (taken next : ℕ) (feed now : Feed) (left : Option (List ℕ)) → IsFilled bytes taken feed left
    → now.byte ≡ None → now.ended ≡ feed.ended → next ≡ taken + 1 → IsFed bytes next now left
unfolding ByteIs
fed_on bytes taken next feed now left filled none ended one =
    let byte : next + byte_count now.byte ≡ next + 0 = ap (λ (h : Option ℕ). next + byte_count h) none in
    let count : next + byte_count now.byte ≡ taken + 1 = byte ∙ omega arith in
    record {
      left_is = filled.left_is ∙ ap (λ (n : ℕ). Some (drop n bytes)) (sym count);
      byte_is = subst (ByteIs bytes next) (sym none) tt;
      ended_is = λ yes. (none, let past = (filled.fed.ended_is (sym ended ∙ yes)).1 in omega (arith, past));
    }

-- it took none
fed_still : (bytes : List ℕ) (taken next : ℕ) (feed now : Feed) (left : Option (List ℕ)) → IsFilled bytes taken feed left
    → now.byte ≡ feed.byte → now.ended ≡ feed.ended → next ≡ taken → IsFed bytes next now left
unfolding ByteIs
fed_still bytes taken next feed now left filled byte ended same =
    let count : next + byte_count now.byte ≡ taken + byte_count feed.byte =
    ap (λ (h : Option ℕ). next + byte_count h) byte ∙ ap (λ (n : ℕ). n + byte_count feed.byte) same in
    let here : ByteIs bytes next feed.byte = subst (λ (n : ℕ). ByteIs bytes n feed.byte) (sym same) filled.fed.byte_is in
    record {
      left_is = filled.fed.left_is ∙ ap (λ (n : ℕ). Some (drop n bytes)) (sym count);
      byte_is = subst (ByteIs bytes next) (sym byte) here;
      ended_is = λ yes.
          let past = filled.fed.ended_is (sym ended ∙ yes) in
          let most = past.1 in
          (byte ∙ past.0, omega (arith, same, most));
    }

-- as the number of bytes taken says
fed_by : (bytes : List ℕ) (taken next : ℕ) (was : Bool) (feed now : Feed) (left : Option (List ℕ))
    → IsFilled bytes taken feed left → now.byte ≡ (if was then None else feed.byte) → now.ended ≡ feed.ended
    → (was ≡ true → next ≡ taken + 1) → (was ≡ false → next ≡ taken) → IsFed bytes next now left
fed_by bytes taken next true feed now left filled byte ended took kept =
    fed_on bytes taken next feed now left filled byte ended (took refl)
fed_by bytes taken next false feed now left filled byte ended took kept =
    fed_still bytes taken next feed now left filled byte ended (kept refl)

apart : {next taken : ℕ} → ((eqb next taken ≡ true) × (next ≡ taken)) ⊎ ((eqb next taken ≡ false) × (next ≢ taken))
    → taken ≤ next → next ≤ taken + 1 → not (eqb next taken) ≡ true → next ≡ taken + 1
apart (inl same) least most is = absurd (false≢true (sym (ap not same.0) ∙ is))
apart (inr other) least most is = let ne = other.1 in omega (arith, ne)

from_not : (b : Bool) → not b ≡ false → b ≡ true
from_not true is = refl
from_not false is = cc

differs : (next taken : ℕ) → taken ≤ next → next ≤ taken + 1 → not (next == taken) ≡ true → next ≡ taken + 1
differs next taken least most is = apart (eqb_tells next taken) least most is

equals : (next taken : ℕ) → not (next == taken) ≡ false → next ≡ taken
equals next taken is = eqb-true next taken (from_not (next == taken) is)

-- the feed after a turn that took the byte, or did not
pub offered_fed : (bytes : List ℕ) (taken next : ℕ) (was : Bool) (feed now : Feed) (left : Option (List ℕ))
    → was ≡ not (next == taken) → taken ≤ next → next ≤ taken + 1 → IsFilled bytes taken feed left
    → now.byte ≡ (if was then None else feed.byte) → now.ended ≡ feed.ended → IsFed bytes next now left
offered_fed bytes taken next was feed now left was_is least most filled byte ended =
    fed_by bytes taken next was feed now left filled byte ended
    (λ yes. differs next taken least most (sym was_is ∙ yes))
    (λ no. equals next taken (sym was_is ∙ no))

-- where there is no byte of an input that goes on, the byte before was taken
pub took_by : (taken next : ℕ) (was : Bool) (feed now : Feed) → was ≡ not (next == taken) → taken ≤ next
    → next ≤ taken + 1 → (feed.byte ≡ None → IsTrue feed.ended) → now.byte ≡ (if was then None else feed.byte)
    → now.ended ≡ feed.ended → now.byte ≡ None → now.ended ≡ false → taken + 1 ≡ next
took_by taken next true feed now was_is least most end byte ended none on =
    sym (differs next taken least most (sym was_is))
took_by taken next false feed now was_is least most end byte ended none on =
    let yes : feed.ended ≡ true = end (sym byte ∙ none) in
    absurd (false≢true (sym on ∙ ended ∙ yes))
