use Rattle.std.proofs.Common.{◌∙◌}
use Rattle.c_tree.specs.Initializers.{string_initializer}
use Rattle.c_tree.specs.Programs.{reading}
use Rattle.c_tree.specs.Statics.{is_start}
use Rattle.c_tree.specs.Syntax.{own_token}
use Rattle.c_expressions.specs.Nodes.{type_in}
use Rattle.c_elaborator.specs.Nodes.{syns_of}
use Rattle.c_elaborator.specs.Parts.{token_of}
use Rattle.c_elaborator.proofs.Parting.{texts_of}
use Rattle.c_statements.proofs.Initializing.{static_text}
use Rattle.c_statements.proofs.Reading.{reads_string, string_same, text_accepted}
use Rattle.c_statements.proofs.filling.initialize_static.Goals as goal

pub initialize_text-requires : goal.initialize_text-requires
initialize_text-requires c =
    let u = c.args.work.now in
    let f = c.requires.part in
    let n = c.part-part.ensures f.syntax f.is in
    record {
      whole = c.requires.whole;
      there = c.static_type-of.ensures.there;
      takes = c.takes_string.ensures ∙ c.if-takes_string.true;
      accepted = text_accepted u c.part-part.result f.syntax n c.in-Text.is;
      parts = texts_of u c.part-part.result f.syntax c.in-Text.is n;
    }

pub returns-then-takes_string : goal.returns-then-takes_string
returns-then-takes_string c = λ x p.
    let u = c.args.work.now in
    let n = c.part-part.ensures x p in
    let of = type_in u.nodes c.static_type-of.result in
    let t = token_of u c.part-part.result.name in
    let first = c.args.b.first in
    static_text u c.initialize_text.new.work c.args.k c.args.name c.static_type-of.result (reading x) first
    (string_initializer t (syns_of x) first of 0) c.initialize_text.result c.static_type-of.ensures.is
    (reads_string x is_start first of 0 (n.kind ∙ c.in-Text.is) (c.takes_string.ensures ∙ c.if-takes_string.true)
    ∙ string_same (own_token x) t (syns_of x) first of 0 n.text n.pos)
    (c.initialize_text.ensures (syns_of x) first n.parts)
