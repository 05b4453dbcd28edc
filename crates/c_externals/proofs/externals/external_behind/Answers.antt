use Rattle.std.proofs.lemmas.Result.{IfOk-weaker}
use Rattle.std.proofs.Common.{ap, sym, ◌∙◌, not, refl}
use Rattle.std.specs.List.{list_any}
use Rattle.ck_base.specs.Tokens.{is_among}
use Rattle.c_tree.specs.Grammar.{Declarator}
use Rattle.c_phrases.specs.Reading.{read}
use Rattle.c_externals.specs.Statements.{declaration_behind}
use Rattle.c_phrases.specs.Got.{rest_of, in_force, naming_of}
use Rattle.c_phrases.proofs.Made.{bind_is, then_is, else_is, grows_same, grows_to, grows_on, means_on}
use Rattle.c_externals.proofs.Declared.{specifies_on, naming_after}
use Rattle.c_externals.proofs.Outer.{naming_function, behind_brace, behind_other}
use Rattle.c_phrases.proofs.Paying.{took, stayed, then_paid, then_owed, pays, roomy_paid}
use Rattle.c_externals.proofs.externals.external_behind.Goals as goal

pub returns-in_default : goal.returns-in_default
returns-in_default c = record {
  size = IfOk-weaker c.declaration_behind.result _ _
      (λ p q. pays (then_paid (then_owed {m = 4} c.in_ok-declarator.ensures.size
      (stayed c.read.new.cursor c.take_if.new.self c.take_if.ensures.nodes c.in_default.ensures.left) refl) q) refl)
      c.declaration_behind.ensures.size;
  low = c.declaration_behind.ensures.low;
  tree = (λ s p.
      let d = c.in_ok-declarator.ensures.tree in
      let named = c.external_naming-naming.ensures s p.defines p.names in
      let kept = grows_to grows_same (sym c.in_default.ensures.nodes) in
      naming_after _ c.take_if.new.self _ _ _ c.declaration_behind.result
      (bind_is _ (ap (λ n. read 199 (Declarator n) (in_force c.args.types.now) (rest_of c.args.cursor.now)) (sym named)
      ∙ d.reads)
      ∙ behind_other s d.tree (in_force c.args.types.now) (rest_of c.read.new.cursor) c.in_default.ensures.other
      ∙ ap (λ n. declaration_behind (read 199) 199 n s d.tree (in_force c.args.types.now) (rest_of c.read.new.cursor))
      (sym named)
      ∙ ap (λ v. declaration_behind (read 199) 199 (naming_of c.external_naming-naming.result) s d.tree
      (in_force c.args.types.now) v) (sym c.in_default.ensures.left))
      (grows_on d.grows kept)
      (c.declaration_behind.ensures.tree s d.tree (specifies_on (grows_on d.grows kept) p) (means_on kept d.means)));
}

pub returns-then-not-is_plain-clause-tree : goal.returns-then-not-is_plain-clause-tree
returns-then-not-is_plain-clause-tree c = λ s p.
    let d = c.in_ok-declarator.ensures.tree in
    let named = c.external_naming-naming.ensures s p.defines p.names in
    bind_is _ (ap (λ n. read 199 (Declarator n) (in_force c.args.types.now) (rest_of c.args.cursor.now)) (sym named)
    ∙ d.reads)
    ∙ behind_brace s d.tree (in_force c.args.types.now) (rest_of c.read.new.cursor)
    (rest_of c.take_if.new.self) c.in-Some.brace c.in-Some.ensures.rest c.in-Some.ensures.found
    ∙ else_is _ (ap (λ v. not (list_any (λ n. is_among (in_force c.args.types.now) n) v)) (sym d.means.root.names)
    ∙ sym c.is_plain.ensures ∙ c.if-not-is_plain.true)

pub returns : goal.returns
returns c = record {
  size = IfOk-weaker c.definition.result _ _
      (λ p q. then_owed (then_paid c.in_ok-declarator.ensures.size
      (took c.read.new.cursor c.take_if.new.self c.take_if.ensures.nodes c.in-Some.ensures.size)) q refl)
      c.definition.ensures.size;
  low = c.definition.ensures.low;
  tree = (λ s p.
      let d = c.in_ok-declarator.ensures.tree in
      let named = c.external_naming-naming.ensures s p.defines p.names in
      let kept = grows_to grows_same (sym c.in-Some.ensures.nodes) in
      naming_function _ c.take_if.new.self _ (in_force c.args.types.now)
      (in_force c.definition.new.types) s d.tree c.in-Some.brace (rest_of c.take_if.new.self) c.definition.result
      (bind_is _ (ap (λ n. read 199 (Declarator n) (in_force c.args.types.now) (rest_of c.args.cursor.now)) (sym named)
      ∙ d.reads)
      ∙ behind_brace s d.tree (in_force c.args.types.now) (rest_of c.read.new.cursor)
      (rest_of c.take_if.new.self) c.in-Some.brace c.in-Some.ensures.rest c.in-Some.ensures.found
      ∙ then_is _ (ap (λ v. not (list_any (λ n. is_among (in_force c.args.types.now) n) v)) (sym d.means.root.names)
      ∙ sym c.is_plain.ensures ∙ c.if-not-is_plain.false))
      (grows_on d.grows kept) c.definition.ensures.names
      (c.definition.ensures.tree s d.tree (means_on (grows_on d.grows kept) p.means) (means_on kept d.means)));
}

pub definition-requires : goal.definition-requires
definition-requires c = record {
  room = roomy_paid (then_paid c.in_ok-declarator.ensures.size
      (took c.read.new.cursor c.take_if.new.self c.take_if.ensures.nodes c.in-Some.ensures.size)) c.requires.room;
  specifiers = c.requires.specifiers;
  low = c.in_ok-declarator.ensures.low;
}

pub declaration_behind-requires-clause-room : goal.declaration_behind-requires-clause-room
declaration_behind-requires-clause-room c =
    roomy_paid (then_owed {m = 4} c.in_ok-declarator.ensures.size
    (stayed c.read.new.cursor c.take_if.new.self c.take_if.ensures.nodes c.in_default.ensures.left) refl)
    c.requires.room

pub declaration_behind-requires-clause-specifiers : goal.declaration_behind-requires-clause-specifiers
declaration_behind-requires-clause-specifiers c = c.requires.specifiers

pub declaration_behind-requires-clause-low : goal.declaration_behind-requires-clause-low
declaration_behind-requires-clause-low c = c.in_ok-declarator.ensures.low
