-- A run under a history, as the program's machine of one version takes it from version to version.
use Rattle.std.proofs.Common.{◌≡◌, ℕ, ◌+◌, List, [], arith, sym, ap, ◌∙◌}
use Rattle.sc_base.specs.declared.key.Key.{Key}
use Rattle.sc_meaning.specs.World.{World, GoesOut, pass}
use Rattle.sc_meaning.specs.Versions.{Text, History, callee_of, version_at}
use Rattle.sc_interp_machine.specs.Runs as runs
use Rattle.sc_interp_machine.specs.Runs.{State, advance}
use Rattle.sc_interp_laws.specs.Worlds.{world_of}
use Rattle.sc_interp.specs.Steady as steady
use Rattle.sc_interp.specs.Steady.{alone}
use Rattle.sc_interp.proofs.Unchanged.{quiet, present, same_step, callee_step}
use Rattle.sc_meaning.specs.Laws.{HaveCome}
use Rattle.sc_interp_change_laws.specs.Following.{reached_in}
use Rattle.sc_interp_change_laws.proofs.Changed.{agree_behind}
use Rattle.sc_interp_change_laws.proofs.Steps as steps

-- where all versions have come, a step is one of the program under the present texts
pub step_steady : (h : History) (texts : List Text) (s : State) → HaveCome (world_of s).count h → version_at h (world_of s).count ≡ texts → advance h s ≡ steady.advance (alone texts) texts s
step_steady h texts s p e =
    let n : ℕ = (world_of s).count in
    let c : ℕ = (world_of (advance h s)).count + 1 in
    steps.step_same n c h (alone texts) (agree_behind n c h (alone texts) p (omega arith, tt) (e ∙ sym (present texts n))) s (omega arith) (omega arith)
    ∙ same_step (alone texts) texts (quiet texts) (present texts) s

-- and so it begins
pub first_steady : (texts : List Text) (key : Key) (w : World) → reached_in (alone texts) key w 0 ≡ steady.callee_next (alone texts) key [] (callee_of texts key) [] (pass GoesOut w)
first_steady texts key w =
    ap (λ ts. runs.callee_next (alone texts) key [] (callee_of ts key) [] (pass GoesOut w)) (present texts (pass GoesOut w).count)
    ∙ callee_step (alone texts) texts (quiet texts) (present texts) key [] (callee_of texts key) [] (pass GoesOut w)
