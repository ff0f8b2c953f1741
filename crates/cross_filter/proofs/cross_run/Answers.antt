use mathlib.Core.Path.{refl, ap, ◌∙◌}
use native.Mathlib.Omega.{arith}
use Rattle.geometry.specs.declared.Kind.TheVariants.{Diamond}
use Rattle.window.specs.Windows.{window_max}
use Rattle.cross_filter.proofs.Cross.{crossed-none, crossed-more}
use Rattle.cross_filter.proofs.cross_run.Goals as goal

pub loop-i-init : goal.loop-i-init
loop-i-init c = crossed-none _ _ _ _ _ _

pub loop-i-preserved : goal.loop-i-preserved
loop-i-preserved c =
    crossed-more _ _ _ _ _ _ _ _ _ _ _ c.requires.some c.loop-i.invariant (omega arith) (omega arith) refl
    (c.window_max.ensures ∙ ap (window_max Diamond) c.cross_window.ensures)
