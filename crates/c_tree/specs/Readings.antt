-- What a part of the syntax is to the constructs above it: the steps of typing that it stands for, by the place where
-- it stands.
use Rattle.std.specs.Prelude.{ℕ, ℤ, Bool, List, Option}
use Rattle.ck_base.specs.declared.positions.Pos.{Pos}
use Rattle.ck_base.specs.Tokens.{Lexeme}
use Rattle.c_tree.specs.Types.{Ty}
use Rattle.c_tree.specs.Terms.{Term, Action}
use Rattle.c_tree.specs.Scopes.{Part, Scope, Doing}
use Rattle.c_tree.specs.Conversions.{Operand}

-- ---- declarations (C11 6.7)

-- storage-class specifiers, as far as they have an effect (6.7.1)
pub data Storage : Type 0 where
  Plain : Storage
  Internal : Storage
  External : Storage
  Defining_type : Storage

-- declaration specifiers: their first token, whether a storage-class specifier stands among them other than `register`,
-- the storage, and the type
pub record Specified : Type 0 where
  pub first : Lexeme
  pub stored : Bool
  pub storage : Storage
  pub of : Ty

-- a parameter: its name, if it has one; the token that gives its place; its type, adjusted; whether it is `void`
-- without a name
pub record Param : Type 0 where
  pub name : Option Lexeme
  pub at : Lexeme
  pub of : Ty
  pub nothing : Bool

-- the parameters of a function declarator, and what their scope declares
pub record Prototype : Type 0 where
  pub params : List Param
  pub scope : Scope

-- what a declarator makes of a type: a pointer to it, perhaps qualified; an array of so many; a function that gives it
pub data Wrap : Type 0 where
  Point : Bool → Wrap
  Row : ℕ → Wrap
  Gives : Prototype → Wrap

-- A declarator: the name, if there is one, and what is made of the specifiers' type, in this order (6.7.6)
pub record Derived : Type 0 where
  pub name : Option Lexeme
  pub wraps : List Wrap

-- ---- initializers (6.7.9)

-- one value that an initializer gives to a part of an object: the part's offset and type, the value, and the first byte
-- of what was written
pub record Slot : Type 0 where
  pub at : ℕ
  pub of : Ty
  pub value : Term
  pub first : Pos

-- what an initializer gives, and how many elements it gives to an array whose length is not known
pub record Filled : Type 0 where
  pub slots : List Slot
  pub count : ℕ

-- ---- statements (6.8)

-- where a statement stands: what the function gives, and whether it is in a loop, or in a loop or switch
pub record Context : Type 0 where
  pub gives : Ty
  pub in_loop : Bool
  pub breakable : Bool

-- what a declaration or a statement in a block gives: the variables that it declares, and its statements
pub record Items : Type 0 where
  pub vars : List ℕ
  pub actions : List Action

-- ---- a part of the syntax

pub record Reading : Type 0 where
  -- an expression
  pub operand : Doing Operand
  -- the name of a type, or a specifier that names one. The truth value says that no declarator follows
  pub type : Bool → Doing Ty
  pub specified : Bool → Doing Specified
  pub derived : Doing Derived
  pub prototype : Doing Prototype
  -- whether it is the only parameter
  pub parameter : Bool → Doing Param
  -- the members before
  pub members : List Part → Doing (List Part)
  -- the value that it has without one of its own
  pub enumerator : ℤ → Doing ℤ
  -- what is asked of each value that is written; the first byte of the whole initializer, the type of what is
  -- initialised, and its offset
  pub initializer : (Slot → Doing Unit) → Pos → Ty → ℕ → Doing Filled
  -- an initializer's declarator, behind these specifiers
  pub declared : Specified → Doing Items
  pub item : Context → Doing Items
  -- a block without a scope of its own
  pub body : Context → Doing Items
  -- a label's value, none for `default`, converted to this type
  pub label : Ty → Doing (Option ℕ)
  pub external : Doing Unit
