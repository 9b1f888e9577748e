-- A boot keeps a machine well formed, since each of its steps does.
use Rattle.std.proofs.Common.{ℕ, ◌<◌, sym, subst}
use Rattle.sim_config.specs.declared.values.Shape.{Shape}
use Rattle.hart_turns.specs.Boot.{Booting, begins_boot, boot_harts, boot_step, booted}
use Rattle.hart_turns.specs.FitLaws.{AreFit, BootsStayFit}
use Rattle.hart_turns.proofs.BootLaws.{boots_keep}
use Rattle.hart_turns.proofs.Fits.{board_steps_stay_fit_lem, parts_of, whole}

-- a machine of this shape on its way through a boot is well formed
abbrev BootFits : Shape → Booting → Type 0
BootFits shape b = AreFit shape b.core b.board

step_fits : (shape : Shape) (h : ℕ) (b : Booting) → h < shape.harts → BootFits shape b → BootFits shape (boot_step h b)
step_fits shape h b within are = board_steps_stay_fit_lem shape b.core b.board h are (subst (λ (n : ℕ). h < n) (sym are.parts.harts) within)

pub boots_stay_fit_lem : BootsStayFit
unfolding booted
boots_stay_fit_lem m fit =
    let left : Booting = (boot_harts m.shape.harts (begins_boot m)).left in
    whole m left.core left.board m.taken (boots_keep (BootFits m.shape) m.shape.harts (step_fits m.shape) (begins_boot m) (parts_of m fit))
