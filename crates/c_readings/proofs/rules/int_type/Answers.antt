use Rattle.std.proofs.Common.{refl, sym}
use Rattle.c_tree.specs.Types.{int}
use Rattle.c_elaborator.proofs.Growing.{quiet_nodes, shows_nodes}
use Rattle.c_elaborator.proofs.Sequencing.{still_same}
use Rattle.c_readings.proofs.rules.int_type.Goals as goal

pub returns : goal.returns
returns c =
    let w = c.args.work.now in
    let n = c.int.new.self in
    let k = c.in_ok-of.ensures in
    record {
      whole = k.keeps.whole;
      grows = quiet_nodes w n k.keeps;
      there = k.is.there;
      gives = λ s h. record {
        value = int;
        state = s;
        is = refl;
        stays = still_same s;
        shows = shows_nodes w n s k.keeps h;
        fits = sym k.is.is;
      };
    }
