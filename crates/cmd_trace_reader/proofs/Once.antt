-- Lines leave one state.
use Rattle.std.proofs.Common.{◌≡◌, sym, ◌∙◌, subst, ℕ, List, [], ◌∷◌, ◌++◌, Option, Some, None}
use Rattle.cmd_trace.specs.ReadsAs.{fed}
use Rattle.cmd_trace_reader.specs.Reading.{State, ComeEach}
use Rattle.cmd_trace_reader.proofs.Sound.{Holds, follows, first_holds}
use Rattle.cmd_trace_reader.proofs.OneState.{OneValue, follows_once, begins_once}

behind_once : OneValue → (lines : List (List ℕ)) (s : State) (text : List ℕ) (t u : Option State) → Holds s text → ComeEach (Some s) lines t → ComeEach (Some s) lines u → t ≡ u
behind_once v [] s text t u holds h k = h ∙ sym k
behind_once v (line ∷ lines) s text t u holds h k =
    let same : h.0 ≡ k.0 = follows_once v s h.0 k.0 line holds.fits holds.few h.1 k.1 in
    behind_once v lines k.0 (text ++ fed line) t u (follows s k.0 line text holds k.1) (subst (λ m. ComeEach (Some m) lines t) same h.2) k.2

pub come_once : OneValue → (lines : List (List ℕ)) (s t : Option State) → ComeEach None lines s → ComeEach None lines t → s ≡ t
come_once v [] s t h k = h ∙ sym k
come_once v (line ∷ lines) s t h k =
    let same : h.0 ≡ k.0 = begins_once v line h.0 k.0 h.1 k.1 in
    behind_once v lines k.0 (fed line) s t (first_holds line k.0 k.1) (subst (λ m. ComeEach (Some m) lines s) same h.2) k.2
