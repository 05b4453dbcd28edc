use Rattle.std.proofs.Common.{ap, subst, ◌∙◌, arith}
use Rattle.ck_base.specs.Lexes.{NextToken}
use Rattle.c_lex.specs.Lexemes.{lexeme_of}
use Rattle.c_lex.proofs.OneReading.{counted_more}
use Rattle.c_lex.proofs.laws.token_count.Goals as goal

pub loop-next-preserved : goal.loop-next-preserved
loop-next-preserved c =
    let before = c.loop-next.invariant.reads in
    let token = lexeme_of c.in-Ok.field-0 in
    let next : NextToken c.loop-next.tokens.file c.loop-next.tokens.at token =
    rw c.in-Ok.is at c.in-Some.ensures.token in
    let taken = rw c.in-Ok.is at c.in-Some.ensures.taken in
    let forward = rw c.in-Ok.is at c.in-Some.ensures.forward in
    record {
      file = ap (λ r. r.file) taken ∙ c.loop-next.invariant.file;
      few = rw taken (omega (arith, forward.0, c.loop-next.invariant.few));
      reads = counted_more _ before.0 _ _ _ token before.1 before.2
          (subst (λ v. NextToken v c.loop-next.tokens.at token) c.loop-next.invariant.file next) (ap (λ r. r.at) taken);
    }
