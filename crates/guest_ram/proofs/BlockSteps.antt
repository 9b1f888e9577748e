-- What the two walks of the unsafe core share. Assumes `Logic`.
--     Buffer                     the row of a `Vec<u8, Lodged>`
--     lodging, lodging_done      what `lodge` is handed for an empty buffer in n bytes of room, and what it gives
--     leaving, leaving_done      what `dislodge` is handed, and the room that it gives back
--     receipt_val                the machine value of a `Receipt`. receipt_told, receipt_made: it is told by the fields, and made of nothing
use Rattle.std.proofs.Common.{◌≡◌, ℕ, ◌+◌, ◌-◌, ◌*◌, ◌^◌, ◌<◌, ◌≤◌, List, [], ◌∷◌, ◌++◌, length, true, refl, sym, ap, ◌∙◌, arith, Vec, w64}
use Rattle.std.proofs.lemmas.Bool.{ne_eqb, not_from_false}
use seplogic.Ra.Ura.{Ura}
use mir.Syntax.{Body, given as dict_at}
use mir.Val.{Val, vint, vptr, vstruct, vcons, vnil, of_list}
use base.Fraction.{full_share}
use base.Logic.{SProp, ent, ex, guard, emp, never, id⊢}
use base.Fml.{Fml, ftrue, fsep, flft, froom}
use prog.Memory.{Memory, size, capped}
use prog.Capped.{capped_is}
use prog.Routine.{Routine}
use prog.Wp.{Calls, Loops, Env, Wp, after_seq, after_block}
use contract.Monad.{Fun, fact, fact_i}
use contract.BorrowLft.{◌⊑◌, ⊑_refl}
use types.Logic.{Logic, sem}
use types.Kit.{Post, any_q, post, ‵, raw, ◌⊛◌, some, later, ◌$◌, ◌∵◌, !, qed, by, move, keep, use0, use1, use2, drop, split, split3, join, pick, fsplit, fjoin, feq_l, feq_i, flt_l, flt_i, rewrite, check, show, await, updating, now, done}
use denote.Exit.{no, left}
use denote.RattleType.{RattleType}
use denote.Builtin.{u8, usize}
use denote.Array.{Array}
use denote.Memory.{part_at}
use denote.Param.{param}
use denote.Param.Laws.{Laws, of_field}
use denote.Param.Shared.{copy_shared}
use denote.RawPtr.{Ptr, RawPtr, block_ptr, null_ptr, ptr_val}
use denote.Shadow.{shadow, makes_shadow}
use denote.Steps.{only, nothing, heard}
use denote.Struct.Field.{u8-field}
use denote.Struct.Laws.{u8-laws, u8-copy}
use denote.Struct.Struct.{Struct}
use denote.Triple.Spec.{triple_of}
use denote.Triple.Statement.{Contract}
use Rattle.core.proofs.alloc.Calls.{Al}
use Rattle.std.specs.Allocator.{block_with_items}
use Rattle.std_alloc.specs.Vec.Ownership.{lodged, owns_if, has_block}
use Rattle.std_alloc.specs.declared.vec.lodged.Lodged.{Lodged}
use Rattle.std_alloc.specs.contracts.vec.Vec as vector
use Rattle.std_alloc.specs.contracts.vec.lodged.Lodged as lodger
use Rattle.std_alloc.specs.contracts.vec.lodged.LodgedAllocator.TheImpl.{ghosts}
use Rattle.std_alloc.specs.contracts.vec.lodge as lodge
use Rattle.std_alloc.specs.contracts.vec.lodged.Vec+T+Lodged.dislodge as dislodge
use Rattle.std_alloc.proofs.vec.Vec.TheLaws as vector-laws
use Rattle.std_alloc.proofs.vec.lodged.Lodged.TheLaws as lodger-laws
use Rattle.std_alloc.proofs.VecSteps.El.{El, no_al}
use Rattle.std_alloc.proofs.VecSteps.Rows.{all_room, empty}
use Rattle.guest_ram.specs.Ownership.{bytes_of}

abbrev pub byte_laws : Laws u8
byte_laws = of_field u8-field u8-laws refl (copy_shared u8-field u8-copy)

abbrev pub Buffer : RattleType
Buffer = vector.the_row u8 lodger.the_row ghosts

abbrev pub buffer_laws : Laws Buffer
buffer_laws = vector-laws.the_row_laws u8 lodger.the_row ghosts byte_laws lodger-laws.the_row_laws

-- a byte as an element, and a buffer in the form that `handle_tells` takes
abbrev Byte : El
Byte = record { row = u8; laws = byte_laws; al = no_al }

abbrev pub whole_buffer : Al
whole_buffer = record { row = Buffer; laws = buffer_laws; g = record { dealloc_token = λ a τ p. ftrue }; d = dict_at 0; drops = dict_at 0 }

-- a block for n bytes has that size
pub bytes_size : (n : ℕ) → n < 2 ^ 64 → capped (size (bytes_of n)) ≡ n
bytes_size n fits = capped_is (n * 1) (omega arith) ∙ omega arith

is_live : (n : ℕ) → 0 < n → has_block n ≡ true
is_live n pos = not_from_false _ (ne_eqb n 0 (λ e. omega arith))

-- what a block, and what the arm of a `match`, goes on with: the code b, to the end of the function
module _ {M : Type 1} {𝓤 : Ura M} (𝓛 : Logic 𝓤) (C : Calls 𝓤 𝓛.H) (Λ : Loops 𝓤 𝓛.H) (E : Env 𝓤 𝓛.H) (b : Body) (q : Post 𝓤 𝓛.H) where
  abbrev pub out_of_the_arm : Post 𝓤 𝓛.H
  out_of_the_arm = any_q (after_seq 𝓤 𝓛.H (Wp 𝓤 𝓛.H C Λ E b (post 𝓤 𝓛.H q)) (post 𝓤 𝓛.H q))

  abbrev pub out_of_the_block : Post 𝓤 𝓛.H
  out_of_the_block = any_q (after_block 𝓤 𝓛.H (post 𝓤 𝓛.H out_of_the_arm))

-- a struct by its fields alone
abbrev by_fields : List RattleType → RattleType
by_fields Rs = Struct (record { name = []; args = []; types = []; fields = Rs })

abbrev pub receipt_val : Ptr → ℕ → Val
receipt_val p n = vstruct (vcons (ptr_val p) (vcons (vint w64 n) (vcons (vstruct vnil) vnil)))

abbrev pub receipt_fields : Ptr → ℕ → List Val → Fml
receipt_fields p n = (by_fields (RawPtr ∷ usize ∷ by_fields [] ∷ [])).own_val (p, (n, (tt, tt)))

pub receipt_told : (p : Ptr) (n : ℕ) (vs : List Val) → shadow (receipt_fields p n vs) → (vs ≡ receipt_val p n ∷ []) × (n < 2 ^ 64)
receipt_told p n vs s = (s.1.0 ∙ (λ i. vstruct (of_list (s.1.1.0 i ++ (s.1.1.1.0.0 i ++ (s.1.1.1.1.0.1.0 i ++ [])))) ∷ []), s.1.1.1.0.1)

module _ {M : Type 1} {𝓤 : Ura M} (𝓛 : Logic 𝓤) where
  open 𝓛 use {H}

  pub receipt_made : (p : Ptr) (n : ℕ) → n < 2 ^ 64 → ent 𝓤 (emp 𝓤) (sem 𝓛 (receipt_fields p n (receipt_val p n ∷ [])))
  receipt_made p n fits =
      makes_shadow 𝓛 (receipt_fields p n (receipt_val p n ∷ [])) (λ _. (tt, (tt, ((tt, tt), ((λ _. (tt, tt)), tt)))))
      ((ptr_val p ∷ [], (vint w64 n ∷ [], (vstruct vnil ∷ [], tt))), (refl, (refl, ((refl, fits), ((tt, (refl, tt)), tt)))))

  -- no buffer begins at null
  pub null_buffer : (v : Vec ℕ Lodged) (vs : List Val) → ent 𝓤 (sem 𝓛 (Buffer.own_val (record v { ptr = null_ptr }) vs)) (never 𝓤)
  null_buffer v vs = qed 𝓛 (‵ (Buffer.own_val (record v { ptr = null_ptr }) vs) ∷ []) ∵ fsplit ! $ drop ! $ fsplit ! $ drop ! $ by ! (id⊢ 𝓤 (never 𝓤))

  -- room for n bytes is an empty buffer of that capacity
  room_as_buffer : (b o n : ℕ) → 0 < n → n < 2 ^ 63 → ent 𝓤 (sem 𝓛 (froom (bytes_of n) b o)) (sem 𝓛 (lodged u8 (block_ptr b o) 0 n []))
  room_as_buffer b o n pos small =
      let same : n ≡ n - 0 = omega arith in
      let start : o ≡ o + 0 * 1 = omega arith in
      qed 𝓛 (‵ (froom (bytes_of n) b o) ∷ []) ∵
      rewrite ! 0 (λ (z : ℕ × ℕ). ‵ (froom (bytes_of z.0) b z.1)) {x = (n - 0, o + 0 * 1)} (λ i. (same i, start i)) refl $
      nothing ! $ move ! (1 ∷ 0 ∷ []) $ fjoin ! $ use0 𝓛 (‵ (part_at (Array u8 0) full_share [] b o)) (empty Byte 𝓛 [] b o refl) $ fjoin ! $
      rewrite ! 0 (λ y. ‵ (owns_if y (block_with_items (λ _ _. ftrue) u8 (block_ptr b o) 0 n []))) (sym (is_live n pos)) refl $
      flt_i ! (n * 1) (2 ^ 63) (omega arith) $ fjoin ! $ done !

  -- a buffer's block is room again, whatever the buffer holds
  buffer_as_room : (b o n c : ℕ) (xs : List ℕ) → 0 < c → n ≤ c → ent 𝓤 (sem 𝓛 (lodged u8 (block_ptr b o) n c xs)) (sem 𝓛 (froom (bytes_of c) b o))
  buffer_as_room b o n c xs pos le =
      qed 𝓛 (‵ (lodged u8 (block_ptr b o) n c xs) ∷ []) ∵ fsplit ! $ drop ! $
      rewrite ! 0 (λ y. ‵ (owns_if y (block_with_items (λ _ _. ftrue) u8 (block_ptr b o) n c xs))) (is_live c pos) refl $
      fsplit ! $ move ! (1 ∷ []) $ fsplit ! $ move ! (0 ∷ 2 ∷ []) $ move ! (1 ∷ 0 ∷ []) $
      use2 𝓛 (‵ (froom (bytes_of c) b o)) (all_room Byte 𝓛 b o n c xs le) $ keep ! (0 ∷ []) $ done !

-- `lodge` and `dislodge` at a call
module _ {M : Type 1} {𝓤 : Ura M} (𝓛 : Logic 𝓤) (at_mem : Memory → SProp 𝓤) (run : Routine → Fun 𝓤) where
  open 𝓛 use {H}

  abbrev pub Lodges : Contract 𝓤
  Lodges = triple_of 𝓛 (lodge.signature u8) (lodge.spec u8 𝓛 at_mem run)

  abbrev pub Dislodges : Contract 𝓤
  Dislodges = triple_of 𝓛 (dislodge.signature u8) (dislodge.spec u8 𝓛 at_mem run)

  module _ (b o n : ℕ) where
    abbrev pub lodging : Lodges.Ghost
    lodging = ((([], tt), (full_share, tt), tt, (block_ptr b o, (0, (n, tt))), (vptr b o ∷ [], (vint w64 0 ∷ [], (vint w64 n ∷ [], tt)))), [])

    abbrev pub IsEmptyOver : Vec ℕ Lodged → Type 0
    IsEmptyOver r = (r.items ≡ []) × (r.len ≡ 0) × (r.cap ≡ n) × (r.ptr ≡ block_ptr b o)

    pub lodging_goes : 0 < n → n < 2 ^ 63 → ent 𝓤 (sem 𝓛 (froom (bytes_of n) b o)) (Lodges.pre lodging)
    lodging_goes pos small =
        let Asked : Type 0 = (0 ≡ length {A = ℕ} []) × (0 ≤ n) × (n < 2 ^ 63) in
        qed 𝓛 (‵ (froom (bytes_of n) b o) ∷ []) ∵ use1 𝓛 (‵ (lodged u8 (block_ptr b o) 0 n [])) (room_as_buffer 𝓛 b o n pos small) $
        use0 𝓛 (raw (fact 𝓤 Asked)) (fact_i 𝓤 Asked (emp 𝓤) (refl, omega arith, small)) $ join ! $
        use0 𝓛 (raw (fact 𝓤 ([] ⊑ []))) (fact_i 𝓤 ([] ⊑ []) (emp 𝓤) (⊑_refl [])) $ join ! $
        nothing ! $ flt_i ! n (2 ^ 64) (omega arith) $ feq_i ! (List Val) (vint w64 n ∷ []) (vint w64 n ∷ []) refl $ fjoin ! $ fjoin ! $
        flt_i ! 0 (2 ^ 64) (omega arith) $ feq_i ! (List Val) (vint w64 0 ∷ []) (vint w64 0 ∷ []) refl $ fjoin ! $ fjoin ! $
        feq_i ! (List Val) (vptr b o ∷ []) (vptr b o ∷ []) refl $ fjoin ! $
        nothing ! $ use0 𝓛 (‵ (flft [] full_share)) (𝓛.lfts.lft-nil full_share) $ join ! $ join ! $ done !

    pub lodging_done : (v : Val) → ent 𝓤 (Lodges.post lodging v) (H.⇛ (ex 𝓤 (λ (r : Vec ℕ Lodged). guard 𝓤 (IsEmptyOver r) (sem 𝓛 (Buffer.own_val r (v ∷ []))))))
    lodging_done v =
        qed 𝓛 (raw (Lodges.post lodging v) ∷ []) ∵ updating ! $
        use1 𝓛 (later (some (λ (r : Vec ℕ Lodged). ((‵ (flft [] full_share) ⊛ ‵ ftrue) ⊛ ‵ (Buffer.own_val r (v ∷ [])))
        ⊛ some (λ (ws : Unit {0} × (Unit {0} × (Unit {0} × Unit {0}))). ‵ (fsep ftrue (fsep ftrue (fsep ftrue ftrue))) ⊛ raw (fact 𝓤 (IsEmptyOver r)))))) (id⊢ 𝓤 _) $
        await ! tt $ pick ! (λ r. split ! $ move ! (1 ∷ []) $ pick ! (λ ws. split ! $ drop ! $ heard ! (IsEmptyOver r) (λ is. split ! $ drop ! $ now ! $
        show ! (λ (z : Vec ℕ Lodged). guard 𝓤 (IsEmptyOver z) (sem 𝓛 (Buffer.own_val z (v ∷ [])))) r $ check ! is $ done !)))

  module _ (d : Vec ℕ Lodged) (u : Val) where
    abbrev pub leaving : Dislodges.Ghost
    leaving = ((([], tt), (full_share, tt), tt, (d, tt), (u ∷ [], tt)), tt)

    pub leaving_goes : ent 𝓤 (sem 𝓛 (Buffer.own_val d (u ∷ []))) (Dislodges.pre leaving)
    leaving_goes =
        qed 𝓛 (‵ (Buffer.own_val d (u ∷ [])) ∷ []) ∵ nothing ! $ use0 𝓛 (raw (fact 𝓤 ([] ⊑ []))) (fact_i 𝓤 ([] ⊑ []) (emp 𝓤) (⊑_refl [])) $ join ! $
        nothing ! $ move ! (2 ∷ 0 ∷ []) $ fjoin ! $ nothing ! $ use0 𝓛 (‵ (flft [] full_share)) (𝓛.lfts.lft-nil full_share) $ join ! $ join ! $ done !

    pub leaving_done : (b o : ℕ) → d.ptr ≡ block_ptr b o → 0 < d.cap → (v : Val)
        → ent 𝓤 (Dislodges.post leaving v) (H.⇛ (guard 𝓤 ((v ≡ vint w64 d.len) × (d.len < 2 ^ 64)) (sem 𝓛 (froom (bytes_of d.cap) b o))))
    leaving_done b o at pos v =
        qed 𝓛 (raw (Dislodges.post leaving v) ∷ []) ∵ updating ! $
        use1 𝓛 (later (some (λ (r : ℕ). ((‵ (flft [] full_share) ⊛ ‵ ftrue) ⊛ ‵ (usize.own_val r (v ∷ [])))
        ⊛ some (λ (ws : Unit {0} × Unit {0}). ‵ (fsep (left ((vector.the_row (param 0 u8) lodger.the_row ghosts).exit no) d ws.0) ftrue) ⊛ raw (fact 𝓤 (r ≡ d.len)) ⊛ ‵ (lodged u8 d.ptr d.len d.cap d.items))))) (id⊢ 𝓤 _) $
        await ! tt $ pick ! (λ r. split ! $ move ! (1 ∷ []) $ pick ! (λ ws. split3 ! $ drop ! $ heard ! (r ≡ d.len) (λ is. move ! (1 ∷ []) $ split ! $ drop ! $ fsplit ! $
        feq_l ! (λ e. flt_l ! (λ f. now ! $ check ! (ap only e ∙ ap (vint w64) is, omega arith) $
        rewrite ! 0 (λ p. ‵ (lodged u8 p d.len d.cap d.items)) at refl $
        use1 𝓛 (‵ (froom (bytes_of d.cap) b o)) (buffer_as_room 𝓛 b o d.len d.cap d.items pos (omega (arith, d.ok.1))) $ keep ! (0 ∷ []) $ done !)))))
