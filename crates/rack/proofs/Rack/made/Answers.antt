-- The sizes that fit are bytes.
use Rattle.std.proofs.Common.{sym, ◌∙◌}
use Rattle.rack.proofs.Laws.{bytes}
use Rattle.rack.proofs.Rack.made.Goals as goal

pub overflow_cast-settings : goal.overflow_cast-settings
overflow_cast-settings c =
    record { fits = (bytes c.args.replicas c.args.clients c.args.cells (sym c.sizes_in.ensures ∙ c.if-sizes_in.true)).first }

pub overflow_cast-settings-then-sizes_in : goal.overflow_cast-settings-then-sizes_in
overflow_cast-settings-then-sizes_in c =
    record { fits = (bytes c.args.replicas c.args.clients c.args.cells (sym c.sizes_in.ensures ∙ c.if-sizes_in.true)).second }

pub overflow_cast-settings-then-sizes_in-2 : goal.overflow_cast-settings-then-sizes_in-2
overflow_cast-settings-then-sizes_in-2 c =
    record { fits = (bytes c.args.replicas c.args.clients c.args.cells (sym c.sizes_in.ensures ∙ c.if-sizes_in.true)).third }
