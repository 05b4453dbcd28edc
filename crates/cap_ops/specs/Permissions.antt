-- The words of permissions that what is built and loaded gives.
use Rattle.std.specs.Prelude.{ℕ}

-- all but Execute: of objects, the table and the stack
abbrev pub data_permissions : ℕ
data_permissions = 125

-- Global, Load and Load_Capability: of string literals and globals of const type
abbrev pub const_permissions : ℕ
const_permissions = 21

-- Global and Execute: of functions and the text
abbrev pub code_permissions : ℕ
code_permissions = 3
