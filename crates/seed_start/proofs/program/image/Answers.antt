-- The bytes grow by one drawn instruction after another.
use Rattle.std.proofs.Common.{◌≡◌, ℕ, ◌++◌, ap, refl, ◌∙◌, arith}
use Rattle.rv_decode.specs.Encode.{encoded}
use Rattle.seed_start.specs.Seed.{drawn_insn, drawn_insns, image_of, opening}
use Rattle.seed_start.proofs.Images.{first_state, next_one, none_drawn, one_more, whole}
use Rattle.seed_start.proofs.program.image.Goals as goal

pub loop-init : goal.loop-init
loop-init c = (c.in_ok-out.ensures.bytes ∙ none_drawn c.args.seed, c.in_ok-out.ensures.length, first_state c.args.seed)

pub loop-preserved : goal.loop-preserved
loop-preserved c = (
  c.in_ok-push_word.ensures.bytes ∙ one_more c.args.seed c.loop.counter c.drawn_word.result c.loop.out.items c.loop.invariant.0 (c.drawn_word.ensures ∙ ap (λ (s : ℕ). encoded (drawn_insn s)) c.loop.invariant.2),
  grind arith,
  c.next_state-s.ensures ∙ next_one c.args.seed c.loop.counter c.loop.s c.loop.invariant.2,
)

pub returns-clause-bytes : goal.returns-clause-bytes
returns-clause-bytes c =
    let all : c.loop.counter ≡ 200 = omega arith in
    c.in_ok-push_word-2.ensures.bytes ∙ whole c.args.seed c.back.result c.loop.out.items _ refl (c.loop.invariant.0 ∙ ap (λ (n : ℕ). image_of opening ++ image_of (drawn_insns c.args.seed n)) all) c.back.ensures
