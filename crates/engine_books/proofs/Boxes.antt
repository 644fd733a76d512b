-- Room for puts while blocks of the bitmap are put.
use Rattle.std.proofs.Common.{◌≡◌, ◌≢◌, ℕ, ◌+◌, ◌-◌, ◌<◌, ◌≤◌, ◌==◌, true, false, not, cond, length, Some, is_some, min, refl, sym, ap, ◌∙◌, arith, inl, inr}
use Rattle.std.proofs.lemmas.Bool.{cases_Bool, cond-true, cond-false, eq-eqb, ne_eqb, cases_eq}
use Rattle.layout_geometry.specs.Geometry.{Geometry, bitmap_start, bitmap_blocks}
use Rattle.engine_running.specs.declared.put.Put.{Put}
use Rattle.engine_running.specs.Rows.{put_of}
use Rattle.engine_running.specs.Running.{Changes, IsOrdered, Puts}
use Rattle.engine_blocks.specs.Ranges.{counted}
use Rattle.engine_books.specs.Books.{has_put}
use Rattle.engine_books.proofs.Rows.{put_with, as_long, no_longer}
use Rattle.engine_books.proofs.Counts.{one_less, as_many}

-- A block of the bitmap is put, after a step that left the puts of all of them and no less room.
pub bits_room : (g : Geometry) (before c now : Changes) (p : Put) → IsOrdered c.paid c.laid → Puts false p c now → bitmap_start g ≤ p.block → p.block < bitmap_start g + bitmap_blocks g → before.puts ≤ c.puts
    → ((b : ℕ) → bitmap_start g ≤ b → b < bitmap_start g + bitmap_blocks g → has_put b c.paid ≡ has_put b before.paid)
    → (puts t : ℕ) → 1 ≤ t → puts + min t (counted (λ b. not (has_put b before.paid)) (bitmap_start g) (bitmap_blocks g) + 1) ≤ before.puts
    → puts + min (t - 1) (counted (λ b. not (has_put b now.paid)) (bitmap_start g) (bitmap_blocks g) + 1) ≤ now.puts
bits_room g before c now p o put from below no_less same puts t some room = elim (cases_Bool (has_put p.block c.paid)) [
  | inl e ↦ omega (
    arith,
    room,
    no_less,
    some,
    put.boxes,
    ap length put.paid,
    ap length put.laid,
    as_long p c.paid o.paid e,
    no_longer p.block c.laid,
    as_many (λ b. not (has_put b now.paid)) (λ b. not (has_put b before.paid)) (bitmap_start g) (bitmap_blocks g) (λ b low high. ap not (again b e ∙ same b low high)),
  )
  | inr f ↦ omega (
    arith,
    room,
    no_less,
    some,
    put.puts,
    one_less (λ b. not (has_put b before.paid)) (λ b. not (has_put b now.paid)) p.block (bitmap_start g) (bitmap_blocks g) from below (ap not (sym (same p.block from below) ∙ f)) (ap not here)
        (λ b low high d. ap not (there b d ∙ same b low high)),
  )
]
  where
    has_now : (b : ℕ) → has_put b now.paid ≡ is_some (cond (p.block == b) (Some p.bytes) (put_of b c.paid))
    has_now b = ap (has_put b) put.paid ∙ ap is_some (put_with p c.paid b)

    here : has_put p.block now.paid ≡ true
    here = has_now p.block ∙ ap is_some (cond-true (p.block == p.block) (Some p.bytes) (put_of p.block c.paid) (eq-eqb p.block p.block refl))

    there : (b : ℕ) → b ≢ p.block → has_put b now.paid ≡ has_put b c.paid
    there b d = has_now b ∙ ap is_some (cond-false (p.block == b) (Some p.bytes) (put_of b c.paid) (ne_eqb p.block b (λ e. d (sym e))))

    again : (b : ℕ) → has_put p.block c.paid ≡ true → has_put b now.paid ≡ has_put b c.paid
    again b e = elim (cases_eq b p.block) [
      | inl s ↦ ap (λ n. has_put n now.paid) s ∙ here ∙ sym (ap (λ n. has_put n c.paid) s ∙ e)
      | inr d ↦ there b d
    ]
