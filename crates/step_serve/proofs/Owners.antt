-- Locks by who owns them.
use Rattle.std.proofs.Common.{◌≡◌, ℕ, Option, Some, None, refl, sym, ap, ◌∙◌}
use Rattle.jvm_base.specs.Words.{from}
use Rattle.machine_state.specs.declared.state.MonitorState.{MonitorState}
use Rattle.machine_state.specs.Deeds.{Deed}
use Rattle.machine_state.specs.Locks.{by_owner}

-- the thread owns the lock
pub by_some : (t : ℕ) (o : Option MonitorState) (other : Deed) (f : MonitorState → Deed) (r : Option MonitorState) (held : MonitorState) → ((x : Deed) (h : MonitorState → Deed) → by_owner t o x h ≡ from x h r) → r ≡ Some held → f held ≡ by_owner t o other f
by_some t o other f r held e is = sym (e other f ∙ ap (λ (q : Option MonitorState). from other f q) is)
