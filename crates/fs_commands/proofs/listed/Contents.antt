-- The line of a file and its bytes, written piece by piece.
use Rattle.std.proofs.Common.{◌≡◌, ◌≢◌, ℕ, ◌+◌, ◌<◌, ◌≤◌, List, ◌++◌, length, take, drop, codes, decimal, Option, Some, subst, ap, arith}
use Rattle.std.proofs.lemmas.List.{drop_all}
use Rattle.std.proofs.KnownBytes.{Appends-trans}
use Rattle.std.specs.Io.KnownBytes.{Appends}
use Rattle.hex.specs.Hex.{encode_lower}
use Rattle.base_io.specs.Prefix.{TakesPrefix}
use Rattle.lang_tree.specs.Tree.{File}
use Rattle.lang_tree.specs.Listing.{digits_behind_blank, line_of}
use Rattle.crash_stands.specs.Files.{FileNode, Files}
use Rattle.fs_commands.proofs.listed.Texts.{IsFirst, IsSecond, Wrote, wrote_more, wrote_front, wrote_all, wrote_so_far, head, digits_all, digits_piece, no_digits}

-- Something that holds of the bytes of node k, where it has so many.
abbrev pub OfFile : Files → ℕ → ℕ → (List ℕ → Type 0) → Type 0
OfFile files k size P = (x : FileNode) → files k ≡ Some x → size ≡ length x.bytes → P x.bytes

module _ (files : Files) (k size : ℕ) (old : Option (List ℕ)) where
  -- how far the digits are written: up to byte `at`
  abbrev pub HasDigits : ℕ → Option (List ℕ) → Type 0
  HasDigits at now = OfFile files k size (λ bytes. Wrote old now (encode_lower (drop at bytes)) (digits_behind_blank bytes))

  -- a prefix of all that there is to write was taken
  abbrev pub HasPrefix : Option (List ℕ) → Type 0
  HasPrefix new = OfFile files k size (λ bytes. TakesPrefix old new (digits_behind_blank bytes))

  pub blank_front : (new : Option (List ℕ)) → IsFirst → size ≢ 0 → TakesPrefix old new (codes " ") → HasPrefix new
  blank_front new first some front x at is =
      let much : 0 < length x.bytes = omega (arith, some, is) in
      subst (TakesPrefix old new) (digits_all x.bytes much) (first old new (codes " ") (encode_lower x.bytes) front)

  pub stays_front : (start : ℕ) (now : Option (List ℕ)) → HasDigits start now → HasPrefix now
  stays_front start now so_far x at is = wrote_so_far old now (encode_lower (drop start x.bytes)) (digits_behind_blank x.bytes) (so_far x at is)

  module _ (start count : ℕ) (piece : List ℕ) (now new : Option (List ℕ)) (so_far : HasDigits start now) (read : (x : FileNode) → files k ≡ Some x → piece ≡ take count (drop start x.bytes)) where
    pub digits_front : IsFirst → IsSecond → TakesPrefix now new (encode_lower piece) → HasPrefix new
    digits_front first second front x at is =
        let rest = encode_lower (drop (start + count) x.bytes) in
        let h = so_far x at is in
        wrote_front old now new (encode_lower (drop start x.bytes)) (encode_lower piece) rest (digits_behind_blank x.bytes) h (digits_piece start count x.bytes piece (read x at))
        (second old now new h.done (encode_lower piece ++ rest) h.taken (first now new (encode_lower piece) rest front))

    pub digits_more : Appends now new (encode_lower piece) → HasDigits (start + count) new
    digits_more taken x at is =
        wrote_more old now new (encode_lower (drop start x.bytes)) (encode_lower piece) (encode_lower (drop (start + count) x.bytes)) (digits_behind_blank x.bytes) (so_far x at is)
        (digits_piece start count x.bytes piece (read x at)) taken

  pub digits_done : (start : ℕ) (now : Option (List ℕ)) → size ≤ start → HasDigits start now → OfFile files k size (λ bytes. Appends old now (digits_behind_blank bytes))
  digits_done start now past so_far x at is =
      let none : length (drop start x.bytes) ≡ 0 = ap length (drop_all start x.bytes (omega (arith, past, is))) in
      wrote_all old now (encode_lower (drop start x.bytes)) (digits_behind_blank x.bytes) (so_far x at is) (no_digits (drop start x.bytes) none)

-- The line of node k, of its parts.
module _ (files : Files) (path : List (List ℕ)) (k size : ℕ) (old : Option (List ℕ)) where
  -- the line up to the blank before the size, and up to the size
  abbrev before_size : List ℕ
  before_size = head (codes "file ") path k ++ codes " "

  abbrev pub sized : ℕ → List ℕ
  sized n = before_size ++ decimal n

  -- a prefix of the line was taken
  abbrev pub HasLinePrefix : Option (List ℕ) → Type 0
  HasLinePrefix new = OfFile files k size (λ bytes. TakesPrefix old new (line_of path k (Some (File bytes))))

  pub head_front : (new : Option (List ℕ)) → IsFirst → TakesPrefix old new (sized size) → HasLinePrefix new
  head_front new first front x at is =
      let start = sized (length x.bytes) in
      first old new (start ++ digits_behind_blank x.bytes) (codes "\n") (first old new start (digits_behind_blank x.bytes) (subst (λ n. TakesPrefix old new (sized n)) is front))

  module _ (mid : Option (List ℕ)) (taken : Appends old mid (sized size)) where
    pub content_front : (new : Option (List ℕ)) → IsFirst → IsSecond → HasPrefix files k size mid new → HasLinePrefix new
    content_front new first second front x at is =
        let start = sized (length x.bytes) in
        first old new (start ++ digits_behind_blank x.bytes) (codes "\n") (second old mid new start (digits_behind_blank x.bytes) (subst (λ n. Appends old mid (sized n)) is taken) (front x at is))

    module _ (now new : Option (List ℕ)) (all : OfFile files k size (λ bytes. Appends mid now (digits_behind_blank bytes))) where
      taken_so_far : OfFile files k size (λ bytes. Appends old now (sized (length bytes) ++ digits_behind_blank bytes))
      taken_so_far x at is = Appends-trans old mid now (sized (length x.bytes)) (digits_behind_blank x.bytes) (subst (λ n. Appends old mid (sized n)) is taken) (all x at is)

      pub end_front : IsSecond → TakesPrefix now new (codes "\n") → HasLinePrefix new
      end_front second front x at is = second old now new (sized (length x.bytes) ++ digits_behind_blank x.bytes) (codes "\n") (taken_so_far x at is) front

      pub line_done : Appends now new (codes "\n") → OfFile files k size (λ bytes. Appends old new (line_of path k (Some (File bytes))))
      line_done end x at is = Appends-trans old now new (sized (length x.bytes) ++ digits_behind_blank x.bytes) (codes "\n") (taken_so_far x at is) end
