use Rattle.std.proofs.Common.{◌+◌, ◌≤◌, ◌++◌, ◌∷◌, [], None, length, refl, ap, sym, subst, ◌∙◌, arith}
use Rattle.ck_base.specs.Lexes.{NextToken, NextEnd, NextRefusal}
use Rattle.c_lex.specs.Lexemes.{lexeme_of}
use Rattle.c_parse.specs.Parsed.{lexical, brackets}
use Rattle.c_parse.specs.Checked.{HasRead, Counts, first_of}
use Rattle.c_parse.proofs.Checking.{read_more}
use Rattle.c_parse.proofs.Deep.{whole}
use Rattle.c_parse.proofs.files.check.Goals as goal

pub loop-next-init : goal.loop-next-init
loop-next-init c =
    let none = c.new-items.ensures.items in
    record {
      file = refl;
      read = record {
        few = let long = ap length none in omega (arith, long);
        within = let begins = c.requires in omega arith;
        reads = rw none (sym c.requires);
      };
      counts = rw none c.no_brackets-brackets.ensures;
    }

pub with_token-brackets-requires : goal.with_token-brackets-requires
with_token-brackets-requires c =
    let before = c.loop-next.invariant in
    let same = ap length before.file in
    let small = c.next.ensures.small in
    record {
      opened = omega (arith, before.counts.opened, before.read.few, before.read.within, same, small);
      closed = omega (arith, before.counts.closed, before.read.few, before.read.within, same, small);
    }

pub loop-next-preserved : goal.loop-next-preserved
loop-next-preserved c =
    let token = lexeme_of c.in-Ok.token in
    let next : NextToken c.loop-next.reader.file c.loop-next.reader.at token =
    rw c.in-Ok.is at c.in-Some.ensures.token in
    let taken = rw c.in-Ok.is at c.in-Some.ensures.taken in
    let forward = rw c.in-Ok.is at c.in-Some.ensures.forward in
    let before = c.loop-next.invariant in
    let at = ap (λ r. r.at) taken in
    let pushed = c.in_ok-push_item-in-Ok.ensures ∙ ap (λ t. c.loop-next.items.items ++ t ∷ []) c.new-item.ensures in
    record {
      file = ap (λ r. r.file) taken ∙ before.file;
      read = rw pushed
          (read_more _ _ _ _ token before.read (subst (λ v. NextToken v c.loop-next.reader.at token) before.file next) at
          (omega (arith, at, forward.0)) (let same = ap length before.file in omega (arith, at, same, forward.1)));
      counts = rw c.in_ok-push_item-in-Ok.ensures (c.with_token-brackets.ensures c.loop-next.items.items before.counts);
    }

pub returns-in-Err : goal.returns-in-Err
returns-in-Err c =
    let before = c.loop-next.invariant in
    lexical (
      c.loop-next.items.items,
      c.loop-next.reader.at,
      before.read.reads,
      subst (λ v. NextRefusal v c.loop-next.reader.at c.in-Err.code c.in-Err.place) before.file
          (rw c.in-Err.is at c.in-Some.ensures.refusal),
    )

pub returns-in-Some-deep : goal.returns-in-Some-deep
returns-in-Some-deep c =
    let before = c.loop-next.invariant in
    brackets c.loop-next.items.items (
      c.loop-next.reader.at,
      before.read.reads,
      subst (λ v. NextEnd v c.loop-next.reader.at) before.file c.in_default.ensures.end,
    )
    (whole _ _ before.counts ∙ ap (λ v. first_of v None) c.in-Some-deep.is)

pub returns : goal.returns
returns c =
    let before = c.loop-next.invariant in
    let same = ap length before.file in
    let small = c.next.ensures.small in
    record {
      cut = record {
        short = subst (λ v. length v ≤ 4_194_304) before.file small;
        lexes = (
          c.loop-next.reader.at,
          before.read.reads,
          subst (λ v. NextEnd v c.loop-next.reader.at) before.file c.in_default.ensures.end,
        );
        brackets = whole _ _ before.counts ∙ ap (λ v. first_of v None) c.in-None.is;
      };
      few = omega (arith, before.read.few, before.read.within, same, small);
    }
