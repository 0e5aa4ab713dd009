-- A `&κ mut [T]` that is lent as a `&κ' [T]` for a lifetime κ' of a call, and comes back as it was: `Denote/Lend.antt`'s `lends_shr_slice` over an open borrow. It says nothing of any program.
--     Kept                what the holder keeps meanwhile: the lender's part at κ', and its own borrow at κ, open, with both halves of its ghost variable
--     lends_shared        given `Room`:  own (the `&κ mut [T]` ((b, o), γ, ys)) ∗ [κ]_q ∗ ts  ⊢ ⇛ (own (the `&κ' [T]` ((b, o), ys)) ∗ Kept ∗ ts)        By T's law of sharing at l (`Denote/Shares.antt`'s `Shares`), with tokens ts whose lifetimes' meet is within l and within κ', and which come back
--     lends_shared_free   given `Room`:  own (the `&κ mut [T]` ((b, o), γ, ys)) ∗ [κ]_q  ⊢ ⇛ (own (the `&κ' [T]` ((b, o), ys)) ∗ Kept)        With no token, where T can be copied (`Denote/Copied.antt`'s `Copied`)
--     shared_back         given `Room`:  [†κ'] ∗ Kept  ⊢ ⇛ (own (the `&κ mut [T]` ((b, o), γ, ys)) ∗ [κ]_q)
-- Assumes `Logic`.
use mathlib.Core.Path.{refl}
use Prim.Native.Nat.{ℕ}
use mathlib.Core.List.{List, [], ◌∷◌}
use lib.ListN.{length}
use seplogic.Ra.Ura.{Ura}
use base.Fraction.{full_share}
use mir.Syntax.{Lifetime}
use mir.Val.{Val}
use base.Logic.{ent, sep}
use base.Fml.{Lft, GName, Share, Fml, Incl, fsep, feq, flft, fdead, fobs, fauth, flent, fobor, fhide}
use ghost.Rules.{Toks, span}
use types.Logic.{Logic, sem, lfts}
use types.Kit.{‵, raw, ◌⊛◌, later, ◌$◌, ◌∵◌, !, qed, move, use1, use2, drop, split, fsplit, fjoin, feq_i, frame, await, updating, now as at_once, done}
use types.Tokens.{lent_back}
use types.Share.{arr_parts, parts}
use denote.RattleType.{RattleType}
use denote.Shadow.{pure_i}
use denote.Memory.{mem, shares}
use denote.Ref.{Bor, MutBor}
use denote.Slice.{slice_val, MutSlice, ShrSlice, heres, Room, shr_slice_at, mut_slice_at, coded_holeys, elements_shared}
use denote.Lend.{Held, lends_shr_slice}
use denote.Lends.{lent_cut}
use denote.Shares.{Shares}
use denote.Copied.{Copied, each_lends}
use denote.Index.{opens_slice, closes_slice}

module _ (R : RattleType) (κ κ' : Lft) (q : Share) (γ : GName) (b o : ℕ) where
  abbrev at_list : List R.Denot → MutBor (List R.Denot)
  at_list ys = record { ref_ptr = (b, o); ghost_name = γ; now = ys }

  abbrev lent_list : List R.Denot → Bor (List R.Denot)
  lent_list ys = record { ref_ptr = (b, o); now = ys }

  abbrev pub Kept : List R.Denot → Fml
  Kept ys = fsep (flent κ' ((arr_parts (shares R) (length ys)).part full_share ys b o)) (fsep (fobor κ q (Held R (length ys) b o γ)) (fsep (fobs γ ((coded_holeys R).code (heres R ys))) (fauth γ ((coded_holeys R).code (heres R ys)))))

  module _ {M : Type 1} {𝓤 : Ura M} (𝓛 : Logic 𝓤) (ℓ ℓ' : Lifetime) (ys : List R.Denot) (room : Room R (length ys)) where
    open 𝓛 use {H, A}

    abbrev vals : List Val
    vals = slice_val (b, o) (length ys) ∷ []

    -- the whole share of the elements, with their count
    abbrev Row : Fml
    Row = (arr_parts (shares R) (length ys)).part full_share ys b o

    pub lends_shared : (l : Lft) → Shares 𝓛 R l → (ts : Toks) → Incl (span ts) l → Incl (span ts) κ'
        → ent 𝓤 (sep 𝓤 (sem 𝓛 ((MutSlice ℓ κ R).own_val (at_list ys) vals)) (sep 𝓤 (A.lft κ q) (lfts 𝓛 ts)))
        (H.⇛ (sep 𝓤 (sem 𝓛 ((ShrSlice ℓ' κ' R).own_val (lent_list ys) vals)) (sep 𝓤 (sem 𝓛 (Kept ys)) (lfts 𝓛 ts))))
    lends_shared l law ts inc sp =
        qed 𝓛 (‵ ((MutSlice ℓ κ R).own_val (at_list ys) vals) ∷ ‵ (flft κ q) ∷ raw (lfts 𝓛 ts) ∷ []) ∵ updating ! $ fsplit ! $ drop ! $ fsplit ! $ opens_slice ! tt R ys b o $
        feq_i ! ℕ (length ys) (length ys) refl $ fjoin ! $ move ! (0 ∷ 4 ∷ []) $
        use2 𝓛 (later ((‵ ((ShrSlice ℓ' κ' R).own_val (lent_list ys) vals) ⊛ ‵ (flent κ' Row)) ⊛ raw (lfts 𝓛 ts))) (lends_shr_slice 𝓛 R ℓ' κ' full_share ys b o room l law ts inc sp) $ await ! tt $ split ! $ split ! $
        -- [the new slice; the lender's part at κ'; the tokens; the open borrow at κ; obs γ; auth γ]
        at_once ! $ frame ! $ move ! (3 ∷ 4 ∷ []) $ fjoin ! $ move ! (3 ∷ 0 ∷ []) $ fjoin ! $ move ! (1 ∷ 0 ∷ []) $ fjoin ! $ done !

    pub lends_shared_free : Copied 𝓛 R
        → ent 𝓤 (sep 𝓤 (sem 𝓛 ((MutSlice ℓ κ R).own_val (at_list ys) vals)) (A.lft κ q))
        (H.⇛ (sep 𝓤 (sem 𝓛 ((ShrSlice ℓ' κ' R).own_val (lent_list ys) vals)) (sem 𝓛 (Kept ys))))
    lends_shared_free copied =
        let F : Fml = feq ℕ (length ys) (length ys) in
        let G : Fml = parts (mem R) (shares R) full_share ys b o in
        qed 𝓛 (‵ ((MutSlice ℓ κ R).own_val (at_list ys) vals) ∷ ‵ (flft κ q) ∷ []) ∵ updating ! $ fsplit ! $ drop ! $ fsplit ! $ opens_slice ! tt R ys b o $
        feq_i ! ℕ (length ys) (length ys) refl $ fjoin ! $
        use1 𝓛 (later (‵ (fhide (elements_shared R ys b o κ')) ⊛ (‵ F ⊛ ‵ (flent κ' Row)))) (lent_cut 𝓛 Row G F (elements_shared R ys b o)
        (qed 𝓛 (‵ Row ∷ []) {P = sep 𝓤 (sem 𝓛 G) (sem 𝓛 F)} (fsplit ! $ move ! (1 ∷ 0 ∷ []) $ done !))
        (qed 𝓛 (‵ G ∷ ‵ F ∷ []) {P = sem 𝓛 Row} (move ! (1 ∷ 0 ∷ []) $ fjoin ! $ done !))
        (qed 𝓛 (‵ F ∷ []) {P = sep 𝓤 (sem 𝓛 F) (sem 𝓛 F)} (feq_i ! ℕ (length ys) (length ys) refl $ done !)) (each_lends 𝓛 R copied full_share ys b o) κ') $
        await ! tt $ split ! $ move ! (1 ∷ []) $ split ! $ drop ! $
        -- [the lender's part at κ'; the elements, shared; the open borrow at κ; obs γ; auth γ]
        at_once ! $ move ! (1 ∷ []) $ pure_i ! (shr_slice_at R (lent_list ys) vals) (tt, (tt, tt)) (refl, room) $ fjoin ! $ frame ! $
        move ! (2 ∷ 3 ∷ []) $ fjoin ! $ move ! (2 ∷ 0 ∷ []) $ fjoin ! $ move ! (1 ∷ 0 ∷ []) $ fjoin ! $ done !

    pub shared_back : ent 𝓤 (sep 𝓤 (A.dead κ') (sem 𝓛 (Kept ys))) (H.⇛ (sep 𝓤 (sem 𝓛 ((MutSlice ℓ κ R).own_val (at_list ys) vals)) (A.lft κ q)))
    shared_back =
        qed 𝓛 (‵ (fdead κ') ∷ ‵ (Kept ys) ∷ []) ∵ updating ! $ move ! (1 ∷ []) $ fsplit ! $ move ! (2 ∷ 0 ∷ []) $ lent_back ! tt $ fsplit ! $ drop ! $
        move ! (1 ∷ []) $ fsplit ! $ move ! (1 ∷ []) $ fsplit ! $ move ! (3 ∷ 2 ∷ 0 ∷ 1 ∷ []) $ closes_slice ! tt R ys ys refl b o $ at_once ! $
        fjoin ! $ pure_i ! (mut_slice_at R (at_list ys) vals) (tt, (tt, tt)) (refl, room) $ fjoin ! $ done !
