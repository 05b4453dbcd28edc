-- The text of the generated file: as many functions as one asks for, and a `main` that calls each a hundred times.
use Rattle.std.specs.Prelude.{ℕ, zero, suc, ◌+◌, List, [], ◌++◌, codes, decimal}

-- function k, on a line of its own
abbrev pub function_line : ℕ → List ℕ
function_line k =
    codes "int f" ++ decimal k ++ codes "(int x){int a[8];int i;for(i=0;i<8;i=i+1)a[i]=x+i*" ++ decimal (k + 3)
    ++ codes ";return a[x&7]%251;}\n"

-- functions 0 to n - 1
unfoldable pub function_lines : ℕ → List ℕ
function_lines zero = []
function_lines (suc n) = function_lines n ++ function_line n

-- a call of function k
abbrev pub call : ℕ → List ℕ
call k = codes "s=f" ++ decimal k ++ codes "(s);"

-- and of functions 0 to n - 1
unfoldable pub calls : ℕ → List ℕ
calls zero = []
calls (suc n) = calls n ++ call n

-- n functions, and a function `main` that calls each of them a hundred times
abbrev pub generated : ℕ → List ℕ
generated n = function_lines n ++ codes "int main(void){int s;int n;s=1;for(n=0;n<100;n=n+1){" ++ calls n
    ++ codes "}return s;}\n"
