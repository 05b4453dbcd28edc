use Rattle.std.proofs.Common.{◌≡◌, true, refl, ap, sym, ◌∙◌}
use Rattle.std.specs.Prelude.{nat_le}
use Rattle.std.proofs.lemmas.Bool.{lt-leb, le-leb}
use Rattle.c_expressions.proofs.Keeping.{keeps_then}
use Rattle.c_declarators.specs.Words.{storage_words}
use Rattle.c_declarators.specs.Steps.{with_const}
use Rattle.c_declarators.proofs.Quietly.{given_quietly}
use Rattle.c_declarators.proofs.Specifying.{stored_twice, of_no_type, of_type, is_none, is_some, IsThere}
use Rattle.c_declarators.proofs.specifiers.specified_by.Goals as goal

pub returns-then-storage_words-gt1 : goal.returns-then-storage_words-gt1
returns-then-storage_words-gt1 c = λ t e s h.
    stored_twice c.args.words t _ c.args.first s e
    (lt-leb (storage_words c.args.words) 1 (rw c.storage_words.ensures at c.if-storage_words-gt1.true))

pub returns-in-None : goal.returns-in-None
returns-in-None c = λ t e s h.
    of_no_type c.args.words t _ c.args.first s e
    (le-leb (storage_words c.args.words) 1 (rw c.storage_words.ensures at c.if-storage_words-gt1.false))
    (is_none c.type_of.new.nodes _ (rw c.in-None.is at c.in_ok-type_of.ensures.is))

pub returns-in_ok-of-in-Some : goal.returns-in_ok-of-in-Some
returns-in_ok-of-in-Some c = λ t e.
    let b : nat_le (storage_words c.args.words) 1 ≡ true =
    le-leb (storage_words c.args.words) 1 (rw c.storage_words.ensures at c.if-storage_words-gt1.false) in
    let f : IsThere c.type_of.new.nodes c.in-Some.bare _ =
    is_some c.type_of.new.nodes c.in-Some.bare _ (rw c.in-Some.is at c.in_ok-type_of.ensures.is) in
    given_quietly c.args.work.now c.with_const.new.nodes _ _ _ _
    (keeps_then c.args.work.now.nodes c.type_of.new.nodes c.with_const.new.nodes c.in_ok-type_of.ensures.keeps
    c.in_ok-of-in-Some.ensures.keeps)
    c.in_ok-of-in-Some.ensures.is.there
    (λ s h. of_type c.args.words t _ f.of s b f.is)
    (λ s h. record {
      first = e;
      stored = rw (c.from.ensures, c.storage_words-in-Some.ensures) refl;
      storage = sym c.storage_of.ensures;
      of = sym (c.in_ok-of-in-Some.ensures.is.is ∙ ap (with_const c.args.words) f.type.is);
    })
