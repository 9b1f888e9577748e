-- The lines of events, one after another.
use Rattle.std.proofs.Common.{◌≡◌, ℕ, ◌+◌, ◌<◌, List, [], ◌∷◌, ◌++◌, length, take, get_or, refl, ap, sym, ◌∙◌, append_assoc, add-one}
use Rattle.std.proofs.Math.Seq.{take-suc}
use Rattle.hart_step.specs.declared.event.Event.{Event}
use Rattle.commit_log.specs.Spelling.{line}
use Rattle.turn_runs.specs.Run.{trace_lines}

pub no_lines : trace_lines [] ≡ []
unfolding trace_lines
no_lines = refl

pub lines_joined : (front back : List Event) → trace_lines (front ++ back) ≡ trace_lines front ++ trace_lines back
unfolding trace_lines
lines_joined [] back = refl
lines_joined (e ∷ es) back =
    ap (λ (zs : List ℕ). line e ++ (10 ∷ zs)) (lines_joined es back)
    ∙ sym (append_assoc (line e) (10 ∷ trace_lines es) (trace_lines back))

one_line : (e : Event) → trace_lines (e ∷ []) ≡ line e ++ 10 ∷ []
unfolding trace_lines
one_line e = refl

pub line_more : (text : List ℕ) (events : List Event) (i : ℕ) (d : Event) → i < length events
    → ((text ++ trace_lines (take i events)) ++ line (get_or events i d)) ++ 10 ∷ [] ≡ text ++ trace_lines
    (take (i + 1) events)
line_more text events i d within =
    let e : Event = get_or events i d in
    append_assoc (text ++ trace_lines (take i events)) (line e) (10 ∷ [])
    ∙ append_assoc text (trace_lines (take i events)) (line e ++ 10 ∷ [])
    ∙ ap (λ (zs : List ℕ). text ++ (trace_lines (take i events) ++ zs)) (sym (one_line e))
    ∙ ap (λ (zs : List ℕ). text ++ zs) (sym (lines_joined (take i events) (e ∷ [])))
    ∙ ap (λ (es : List Event). text ++ trace_lines es) (sym (rw add-one (take-suc events i d within)))

-- one step of the loop that pushes them
pub lines_step : (text now longer buf last : List ℕ) (events : List Event) (i : ℕ) (d : Event) → i < length events
    → now ≡ text ++ trace_lines (take i events) → longer ≡ now ++ buf → buf ≡ line (get_or events i d)
    → last ≡ longer ++ 10 ∷ [] → last ≡ text ++ trace_lines (take (i + 1) events)
lines_step text now longer buf last events i d within now_is longer_is buf_is last_is =
    let begun : now ++ buf ≡ now ++ line (get_or events i d) = ap (λ (zs : List ℕ). now ++ zs) buf_is in
    let pushed = longer_is ∙ begun ∙ ap (λ (zs : List ℕ). zs ++ line (get_or events i d)) now_is in
    last_is ∙ ap (λ (zs : List ℕ). zs ++ 10 ∷ []) pushed ∙ line_more text events i d within
