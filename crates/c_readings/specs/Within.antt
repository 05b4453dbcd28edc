-- Parts of the tree, and how deep they go.
use Rattle.std.specs.Prelude.{ℕ, ◌≤◌, List}
use Rattle.ck_base.specs.Tokens.{Lexeme}
use Rattle.c_tree.specs.declared.syntax.Node.{Node}
use Rattle.c_tree.specs.Syntax.{Syn, Syns}
use Rattle.c_elaborator.specs.declared.work.Work.{Work}
use Rattle.c_elaborator.specs.Parts.{AreParts}
pub use Rattle.c_plain_rules.specs.Depths.{depth, depths, PartWithin}
use Rattle.c_readings.specs.Kids.{IsNode}

-- these nodes are some parts, each of which goes at most so deep
pub record PartsWithin (w : Work) (limit : ℕ) (ks : List ℕ) : Type 0 where
  pub syntax : Syns
  pub are : AreParts w ks syntax
  pub within : depths syntax ≤ limit

-- of that part this holds
pub record PartThat (Is : Syn → Type 0) (w : Work) (limit k : ℕ) : Type 0 where
  pub part : PartWithin w limit k
  pub has : Is part.syntax

-- of those parts this holds
pub record PartsThat (Are : Syns → Type 0) (w : Work) (limit : ℕ) (ks : List ℕ) : Type 0 where
  pub parts : PartsWithin w limit ks
  pub have : Are parts.syntax

-- a node is some part's, whose own parts go at most so deep
pub record NodeWithin (w : Work) (limit : ℕ) (n : Node) : Type 0 where
  pub token : Lexeme
  pub syntax : Syns
  pub is : IsNode w n token syntax
  pub within : depths syntax ≤ limit
