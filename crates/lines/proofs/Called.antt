-- What a walk that calls a covered function uses, of any function.
--     asks         what a callee asks, from the tokens and what its parameters own, where its `requires` asks nothing
--     returned     what a callee's `post` gives: a result, the fact that its contract says, its relation to the machine value, what it owns and the tokens
--     pair-twice   what can be had twice can be had twice together
-- Each takes `Logic`.
use mathlib.Core.List.{List, [], ◌∷◌}
use seplogic.Ra.Ura.{Ura}
use mir.Val.{Val}
use base.Logic.{ent, sep, emp, via, snd∗, ex_e, id⊢}
use base.Fml.{Fml, fsep}
use types.Logic.{Logic, sem}
use contract.Monad.{fact}
use types.Kit.{Item, Goal, Soaks, Seq, Step, ‵, raw, ◌⊛◌, some, later, ◌$◌, ◌∵◌, !, qed, move, use0, use1, use2, split, join, pick, fsplit, fjoin, await, done}
use denote.RattleType.{owns}
use denote.Laws.{Is, shows}
use denote.Signature.{Signature, type_at, types_at}
use denote.Steps.{peeks, heard}
use denote.Triple.Clauses.{Clauses, Ended, Lasts, at_exit, lasts, ensured, closing}
use denote.Triple.Entry.{Res, alive}
use denote.Triple.Spec.{Spec, triple_of}

module _ {M : Type 1} {𝓤 : Ura M} {𝓛 : Logic 𝓤} {K : Type 0} {Γ : List (Item 𝓤)} {G : Goal 𝓤 𝓛.H} where
  pub asks : K → (S : Signature) (s : Spec 𝓤 S) (y : (triple_of 𝓛 S s).Ghost) → ent 𝓤 (emp 𝓤) ((s y.0.0 y.0.3).requires y.1)
      → Step K 𝓛 (raw ((triple_of 𝓛 S s).pre y) ∷ Γ) G (raw (alive 𝓛 S y.0.0 y.0.1) ∷ ‵ (owns (types_at S.params y.0.0) y.0.3 y.0.4) ∷ Γ) G
  asks t S s y free = use2 𝓛 (raw ((triple_of 𝓛 S s).pre y))
      (qed 𝓛 (raw (alive 𝓛 S y.0.0 y.0.1) ∷ ‵ (owns (types_at S.params y.0.0) y.0.3 y.0.4) ∷ []) ∵
      join ! $ use0 𝓛 (raw ((s y.0.0 y.0.3).requires y.1)) free $ move ! (1 ∷ 0 ∷ []) $ done !)

  pub returned : K → Soaks G → (E : Ended) (c : Clauses 𝓤 E) (y : (triple_of 𝓛 E.signature (closing 𝓛 E c)).Ghost) (u : Val) (φ : Res E.signature y.0.0 → Type 0)
      → ((r : Res E.signature y.0.0) (ws : Lasts E y.0.0 y.0.3) → ent 𝓤 ((c y.0.0 y.0.3).ensures y.1 r (at_exit E y.0.0 y.0.3 ws)) (fact 𝓤 (φ r)))
      → ((r : Res E.signature y.0.0) → φ r → Is (type_at E.signature.result y.0.0) r (u ∷ [])
      → Seq K 𝓛 (‵ ((type_at E.signature.result y.0.0).own_val r (u ∷ [])) ∷ raw (alive 𝓛 E.signature y.0.0 y.0.1) ∷ Γ) G)
      → Seq K 𝓛 (raw ((triple_of 𝓛 E.signature (closing 𝓛 E c)).post y u) ∷ Γ) G
  returned t soaks E c y u φ said k =
      use1 𝓛 (later (some (λ (r : Res E.signature y.0.0). (raw (alive 𝓛 E.signature y.0.0 y.0.1) ⊛ ‵ ((type_at E.signature.result y.0.0).own_val r (u ∷ []))) ⊛ raw (ensured 𝓛 E c y.0.0 y.0.3 y.1 r)))) (id⊢ 𝓤 _) $
      await t soaks $ pick t (λ r. split t $ move t (1 ∷ []) $
      use1 𝓛 (raw (fact 𝓤 (φ r))) (ex_e 𝓤 _ (λ ws. via 𝓤 _ (snd∗ 𝓤 (sem 𝓛 (lasts E y.0.0 y.0.3 ws)) ((c y.0.0 y.0.3).ensures y.1 r (at_exit E y.0.0 y.0.3 ws))) (said r ws))) $
      heard t (φ r) (λ e. split t $ move t (1 ∷ []) $
      peeks t (type_at E.signature.result y.0.0) (Is (type_at E.signature.result y.0.0)) (shows 𝓛 (type_at E.signature.result y.0.0)) r (u ∷ []) (λ is. k r e is)))

module _ {M : Type 1} {𝓤 : Ura M} (𝓛 : Logic 𝓤) (X Y : Fml) where
  pub pair_twice : ent 𝓤 (sem 𝓛 X) (sep 𝓤 (sem 𝓛 X) (sem 𝓛 X)) → ent 𝓤 (sem 𝓛 Y) (sep 𝓤 (sem 𝓛 Y) (sem 𝓛 Y))
      → ent 𝓤 (sem 𝓛 (fsep X Y)) (sep 𝓤 (sem 𝓛 (fsep X Y)) (sem 𝓛 (fsep X Y)))
  pair_twice x y =
      qed 𝓛 (‵ (fsep X Y) ∷ []) ∵ fsplit ! $ use1 𝓛 (‵ X ⊛ ‵ X) x $ split ! $ move ! (2 ∷ []) $ use1 𝓛 (‵ Y ⊛ ‵ Y) y $ split ! $
      -- [Y; Y; X; X]
      move ! (2 ∷ 0 ∷ []) $ fjoin ! $ move ! (2 ∷ 1 ∷ []) $ fjoin ! $ done !
