-- All calls run, as deep as the turns allow.
use Rattle.std.proofs.Common.{ℕ, zero, suc, ap, ◌∙◌, arith}
use Rattle.cheri_c_sem.specs.Calls.{in_frame}
use Rattle.cheri_c_sem.specs.Depth.{deep}
use Rattle.cheri_c_sem.proofs.Gathered.{turns_alone_law}
use Rattle.lower_runs.specs.Calling.{CallsRun}
use Rattle.lower_runs.specs.Functions.{CallsAreRun}
use Rattle.lower_runs.proofs.Functions.{functions_run}

pub calls_are_run : CallsAreRun
calls_are_run ops placed w bytes t p objects frames signs funs each = up_to
  where
    up_to : (limit : ℕ) → CallsRun ops w t p objects (deep ops w funs) signs limit
    up_to zero = record { runs = λ f vs s callers k inside lt. absurd (omega arith) }
    up_to (suc m) = record {
      runs = λ f vs s callers k inside lt sound high typed goes_back.
          let one = each m f inside in
          (turns_alone_law ops w funs).calls f vs s k
          ∙ ap (λ z. in_frame ops w funs (deep ops w funs) f z vs s k) one.1
          ∙ functions_run ops placed w bytes t p objects frames (deep ops w funs) signs funs f one.0 m one.2 one.3
          (up_to m) vs s callers k (omega arith) sound high typed goes_back;
    }
