use Rattle.std.proofs.Common.{◌≡◌, ℕ, ◌∙◌, rules, arith}
use Rattle.ck_base.specs.Tokens.{Lexeme}
use Rattle.c_tree.specs.Scopes.{State}
use Rattle.c_tree.specs.Declarators.{declare_tag}
use Rattle.c_types.specs.Calls.{IsTag}
use Rattle.c_types.specs.Declares.{declares_tag, name_of}
use Rattle.c_types.specs.Naming.{IsTagOf}
use Rattle.c_expressions.specs.declared.nodes.Nodes.{Nodes}
use Rattle.c_elaborator.specs.declared.work.Work.{Work}
use Rattle.c_elaborator.specs.Parts.{token_of}
use Rattle.c_declarators.specs.Parts.{CountThere, IsRecord}
use Rattle.c_declarators.proofs.Lifting.{declared, refused}
use Rattle.c_declarators.proofs.Tagging.{declare_tag_declares, tag_declared, tag_not_refused, name_is}
use Rattle.c_declarators.proofs.tags.declare_tag.Goals as goal

pub returns-in-Ok-bind_tag : goal.returns-in-Ok-bind_tag
returns-in-Ok-bind_tag c =
    let w : Work = c.args.work.now in
    let m : Nodes = c.bind_tag.new.nodes in
    let t : Lexeme = token_of w c.args.name in
    let u : Lexeme = name_of w.nodes.scopes.file.now c.tag_of-d.result in
    let F : State → ℕ → Type 0 = IsTagOf c.args.kind c.in-Ok.tag in
    let e : c.in-Ok.tag ≡ c.tag_count.result =
    first_of (search rules, cc (c.in-Ok.ensures), omega (arith, c.in-Ok.ensures)) in
    declared w m (declare_tag c.args.kind t) _ F F c.requires.whole c.bind_tag.ensures.declared
    (declare_tag_declares w.file.now c.args.kind t) tt
    (λ s h. tag_declared m.scopes m.p c.args.kind c.tag_kind-k.result t u c.tag_of-d.result.defines s c.in-Ok.tag
    (IsTag m.p c.in-Ok-bind_tag.field-0) c.tag_kind-k.ensures
    (name_is w c.args.name c.tag_of-d.result s c.tag_of-d.ensures.name c.tag_of-d.ensures.pos h)
    c.tag_of-d.ensures.defines (c.requires.new s h) (e ∙ c.tag_count.ensures w.nodes.p s h.stands)
    (c.in-Ok-bind_tag.ensures.is s h.stands))
    (λ s n f. f)

pub returns-in-Err : goal.returns-in-Err
returns-in-Err c =
    let w : Work = c.args.work.now in
    let m : Nodes = c.bind_tag.new.nodes in
    let t : Lexeme = token_of w c.args.name in
    let u : Lexeme = name_of w.nodes.scopes.file.now c.tag_of-d.result in
    refused w w m (declares_tag c.tag_kind-k.result u c.tag_of-d.result.defines) (declare_tag c.args.kind t) (IsTag m.p)
    CountThere (IsRecord c.args.kind) c.in-Err.refusal
    (λ s z h e. absurd (tag_not_refused c.args.kind c.tag_kind-k.result t u c.tag_of-d.result.defines s z
    c.tag_kind-k.ensures (name_is w c.args.name c.tag_of-d.result s c.tag_of-d.ensures.name c.tag_of-d.ensures.pos h)
    c.tag_of-d.ensures.defines (c.requires.new s h) e)) c.in-Err.ensures.is
