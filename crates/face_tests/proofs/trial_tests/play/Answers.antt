use Rattle.std.proofs.Common.{refl, arith}
use Rattle.face_tests.proofs.trial_tests.play.Goals as goal

pub trial-requires-clause-new : goal.trial-requires-clause-new
trial-requires-clause-new c = (
  record { pages = 16; groups = 8; blocks = 64 },
  record {
    limits = record {
      pages = omega arith;
      few_pages = omega arith;
      groups = omega arith;
      few_groups = omega arith;
      fours = refl;
      blocks = omega arith;
      few_blocks = omega arith;
    };
    state = c.in_ok-inner.ensures.state;
    fresh = c.in_ok-inner.ensures.fresh;
    lives = c.in_ok-inner.ensures.lives;
  },
)
