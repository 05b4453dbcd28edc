use Rattle.c_finish.proofs.Ending.{parts_shown}
use Rattle.c_finish.specs.declared.file_end.Parts.{Parts}
use Rattle.c_finish.proofs.file_end.parts_of.Goals as goal

pub returns : goal.returns
returns c =
    let x : Parts = record {
      numbers = c.in_ok-numbers.numbers;
      globals = c.in_ok-globals.globals;
      funs = c.in_ok-funs.funs;
      main = c.function-main.result;
    } in
    record {
      numbers = c.in_ok-numbers.ensures;
      written = λ s h. parts_shown c.args.work.now x c.args.main s c.in_ok-numbers.ensures c.function-main.ensures
          c.requires.main c.in_ok-globals.ensures (c.in_ok-funs.ensures.are s h) h;
      bodies = c.in_ok-funs.ensures.bodies;
    }
