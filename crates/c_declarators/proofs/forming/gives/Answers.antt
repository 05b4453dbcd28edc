use Rattle.c_declarators.proofs.Making.{function_made}
use Rattle.c_declarators.proofs.forming.gives.Goals as goal

pub returns : goal.returns
returns c =
    function_made c.args.nodes.now c.signature.new.nodes c.type_number.new.self c.args.f c.in_ok-types.types.items _
    c.bare-plain.result c.in_ok-of.of c.is_given-given.result _ c.bare-plain.ensures c.in_ok-types.ensures
    (rw c.from_vec.ensures at c.in_ok-of.ensures) c.is_given-given.ensures c.either.ensures
