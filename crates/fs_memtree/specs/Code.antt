-- How a tree and a session are stored, so that they can be values of models. It says nothing of what they mean.
use Rattle.std.specs.Prelude.{◌≡◌, ℕ, Bool, List, Option, Some, None, refl}
use Rattle.std.proofs.Common.{ap}
use Rattle.std.specs.Coded.{Coded, code_by, coded_list, coded_ℕ, coded_option, coded_bool, coded×}
use Rattle.std.specs.FinMap as map
use Rattle.base_types.specs.Layouts.{layout_number, layout_of}
use Rattle.base_types.specs.LayoutLaws.{layout_back}
use Rattle.lang_tree.specs.Tree.{Tree, Bounds, Names, Nodes, Snapshots, Kept, Thing, Dir, File}
use Rattle.lang_tree.specs.Step.{Session}

content_of : Thing → Option (List ℕ)
content_of Dir = None
content_of (File bytes) = Some bytes

thing_of : Option (List ℕ) → Thing
thing_of None = Dir
thing_of (Some bytes) = File bytes

thing_same : (x : Thing) → thing_of (content_of x) ≡ x
unfolding thing_of content_of
thing_same Dir = refl
thing_same (File bytes) = refl

pub coded_thing : Coded Thing
coded_thing = code_by (Option (List ℕ)) (coded_option (coded_list coded_ℕ)) content_of thing_of thing_same

coded_names : Coded Names
coded_names = map.code (coded_list (coded_list coded_ℕ)) coded_ℕ

coded_nodes : Coded Nodes
coded_nodes = map.code coded_ℕ coded_thing

coded_kept : Coded Kept
coded_kept = code_by (ℕ × (Names × Nodes)) (coded× coded_ℕ (coded× coded_names coded_nodes))
    (λ k. (k.number, (k.names, k.nodes))) (λ p. record { number = p.0; names = p.1.0; nodes = p.1.1 }) (λ _. refl)

pub coded_tree : Coded Tree
coded_tree = code_by (Names × (Nodes × Snapshots)) (coded× coded_names (coded× coded_nodes (map.code (coded_list coded_ℕ) coded_kept)))
    (λ t. (t.names, (t.nodes, t.snapshots))) (λ p. record { names = p.0; nodes = p.1.0; snapshots = p.1.1 }) (λ _. refl)

-- a layout by its number, and bounds by both numbers
pub coded_bounds : Coded Bounds
coded_bounds = code_by (ℕ × ℕ) (coded× coded_ℕ coded_ℕ) (λ b. (b.nodes, layout_number b.layout)) (λ p. record { nodes = p.0; layout = layout_of p.1 })
    (λ b. ap (λ l. record { nodes = b.nodes; layout = l }) (layout_back b.layout))

pub coded_session : Coded Session
coded_session = code_by (Tree × (Bounds × (ℕ × (Bool × ℕ)))) (coded× coded_tree (coded× coded_bounds (coded× coded_ℕ (coded× coded_bool coded_ℕ))))
    (λ s. (s.tree, (s.limit, (s.points, (s.changed, s.durable)))))
    (λ p. record { tree = p.0; limit = p.1.0; points = p.1.1.0; changed = p.1.1.1.0; durable = p.1.1.1.1 })
    (λ _. refl)
