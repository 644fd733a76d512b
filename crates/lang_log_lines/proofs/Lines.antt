-- The line of a call is read as that call.
use Rattle.std.proofs.Common.{◌≡◌, ap, refl, ◌∙◌, arith, ℕ, ◌==◌, ◌<◌, ◌^◌, not, nat_lt, true, List, [], ◌∷◌, ◌++◌, Some, decimal, codes}
use Rattle.std.specs.List.{list_all, slice_split}
use Rattle.hex.specs.Hex.{encode_lower}
use Rattle.lang_log.specs.declared.call.LogCall.{LogCall}
use Rattle.lang_log.specs.declared.call.LogCall.TheVariants.{Append, Get, Trim, Count, Order, Sync, Bad}
use Rattle.lang_log_lines.specs.Grammar.{append_call, call_of, call_of_parts, get_call, trim_call}
use Rattle.lang_log_lines.specs.Text.{IsAskedFor, text_of_call}
use Rattle.lang_script.specs.Grammar.{bytes_of, small_number_of}

module _
    (number : (n : ℕ) → n < 2 ^ 32 → small_number_of (decimal n) ≡ Some n)
    (bytes : (b : ℕ) (bs : List ℕ) → list_all (λ b. nat_lt b 256) (b ∷ bs) ≡ true → bytes_of (encode_lower (b ∷ bs)) ≡ Some (b ∷ bs))
    (two_with_number : (word : List ℕ) (n : ℕ) → n < 2 ^ 32 → list_all (λ b. not (b == 32)) word ≡ true
    → slice_split (λ b. b == 32) (word ++ 32 ∷ decimal n) ≡ word ∷ decimal n ∷ [])
    (two_with_bytes : (word bs : List ℕ) → list_all (λ b. not (b == 32)) word ≡ true
    → slice_split (λ b. b == 32) (word ++ 32 ∷ encode_lower bs) ≡ word ∷ encode_lower bs ∷ []) where
  pub read_back : (call : LogCall) → IsAskedFor call → call_of (text_of_call call) ≡ call
  read_back (Append []) is = refl
  read_back (Append (b ∷ bs)) is = ap call_of_parts (two_with_bytes (codes "append") (b ∷ bs) refl) ∙ ap append_call (bytes b bs is)
  read_back (Get n) is = ap call_of_parts (two_with_number (codes "get") n is refl) ∙ ap get_call (number n is)
  read_back (Trim n) is = ap call_of_parts (two_with_number (codes "trim") n is refl) ∙ ap trim_call (number n is)
  read_back Count is = refl
  read_back Order is = refl
  read_back Sync is = refl
  read_back Bad is = absurd is
