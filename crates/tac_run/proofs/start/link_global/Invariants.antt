use Rattle.std.proofs.Common.{◌≡◌, drop, map}
use Rattle.cheri_c_sem.specs.Calls.{with_links}
use Rattle.tac_run.specs.Lists.{starting_of}
use Rattle.tac_run.specs.Holdings.{ops_of, with_store}
use Rattle.tac_run.proofs.start.link_global.Given as goal

abbrev pub invariant-links : goal.invariant-links
invariant-links l = record {
  under : l.memory.map ≡ l.fn.memory.map;
  so_far :
      with_store l.memory (with_links (ops_of l.memory) l.memory.store l.object
      (map (starting_of l.program.p.now) (drop l.l-index l.g.links)))
      ≡ with_store l.fn.memory (with_links (ops_of l.fn.memory) l.fn.memory.store l.object
      (map (starting_of l.program.p.now) l.g.links));
}
