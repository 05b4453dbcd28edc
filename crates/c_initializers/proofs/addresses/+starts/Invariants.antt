use Rattle.std.proofs.Common.{◌+◌, ◌*◌}
use Rattle.c_initializers.proofs.addresses.+starts.Given as goal

abbrev pub decreases-start_of : goal.decreases-start_of
decreases-start_of l = 2 * l.node + 1

abbrev pub decreases-form_start : goal.decreases-form_start
decreases-form_start l = 2 * l.node
