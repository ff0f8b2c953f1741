use mathlib.Core.Path.{◌≡◌, refl}
use mathlib.Core.Logic.{inl, inr}
use native.Mathlib.Omega.{arith}
use Rattle.erosion_series.proofs.Pairs.{held_start, eroding-start, eroding-asks, eroding-more, eroding-empty, eroded-to}
use Rattle.erosion_series.proofs.erode_to.Goals as goal

pub copy_run-requires : goal.copy_run-requires
copy_run-requires c = (omega arith, omega arith)

pub loop-k-init : goal.loop-k-init
loop-k-init c =
    let given = c.args in
    eroding-start _ _ _ _
    (held_start given.head given.relief.now given.a.now _ c.requires.1.read c.requires.1.first c.copy_run.ensures) c.requires.1.second

pub step_pair-top-requires : goal.step_pair-top-requires
step_pair-top-requires c =
    eroding-asks _ _ _ _ _ _ _ c.loop-k.invariant (omega arith) c.requires.1.wide

pub returns-then-top-eq0 : goal.returns-then-top-eq0
returns-then-top-eq0 c =
    let given = c.args in
    eroded-to given.head given.relief.now given.number _ given.a.now c.copy_run.new.dst _ _
    _ c.copy_run.ensures
    (eroding-more _ _ _ _ _ _ _ c.loop-k.invariant _ _ _ c.step_pair-top.ensures) (omega arith)
    (λ h. omega arith)
    (inr (eroding-empty _ _ _ _ _ _ _ c.loop-k.invariant _ _ _ c.step_pair-top.ensures c.if-top-eq0.true))

pub loop-k-preserved : goal.loop-k-preserved
loop-k-preserved c = eroding-more _ _ _ _ _ _ _ c.loop-k.invariant _ _ _ c.step_pair-top.ensures

pub returns : goal.returns
returns c =
    let given = c.args in
    let k : c.loop-k.k ≡ given.number = omega arith in
    eroded-to given.head given.relief.now given.number given.number given.a.now c.copy_run.new.dst _ _
    _ c.copy_run.ensures (rw k at c.loop-k.invariant) (omega arith) (λ h. omega arith) (inl refl)
