use Rattle.std.proofs.Common.{ℕ, List}
use Rattle.c_parse.proofs.OneAnswer.{ReadsOnce, same_tree, apart, same_refusal}
use Rattle.c_parse.proofs.laws.one_answer.Goals as goal

pub returns : goal.returns
returns c =
    let once : (file : List ℕ) → ReadsOnce file = λ file. record {
      tokens = c.one_reading.ensures.tokens file;
      refusal = c.one_reading.ensures.refusal file;
      apart = c.one_reading.ensures.apart file;
    } in
    record {
      tree = λ file. same_tree file (once file);
      apart = λ file a code place. apart file (once file) a code place;
      refusal = λ file. same_refusal file (once file);
    }
