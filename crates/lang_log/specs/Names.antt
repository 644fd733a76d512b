-- Where a log lies in a tree: its directory, and the names of its segments.
use Rattle.std.specs.Prelude.{ℕ, zero, suc, ◌+◌, ◌-◌, ◌*◌, ◌/◌, ◌%◌, List, [], ◌∷◌, ◌++◌}

-- the last k decimal digits of a number, the highest first
abbrev pub digits : ℕ → ℕ → List ℕ
digits zero n = []
digits (suc k) n = digits k (n / 10) ++ (48 + n % 10) ∷ []

-- the name of the segment whose first append has this number: ten digits
abbrev pub segment_name : ℕ → List ℕ
segment_name first = digits 10 first

-- the number that digits write, behind those that wrote n
abbrev pub number_in : ℕ → List ℕ → ℕ
number_in n [] = n
number_in n (digit ∷ digits) = number_in (10 * n + (digit - 48)) digits

-- the directory of the log, `/log`
abbrev pub log_path : List (List ℕ)
log_path = (108 ∷ 111 ∷ 103 ∷ []) ∷ []

-- where a name lies in it
abbrev pub path_in_log : List ℕ → List (List ℕ)
path_in_log name = (108 ∷ 111 ∷ 103 ∷ []) ∷ name ∷ []

-- where the segment lies whose first append has this number
abbrev pub segment_path : ℕ → List (List ℕ)
segment_path first = path_in_log (segment_name first)
