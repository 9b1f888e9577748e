-- `take` makes a buffer of the new block, and keeps its token. Assumes `Logic`.
use Rattle.std.proofs.Common.{◌≡◌, ℕ, ◌^◌, ◌<◌, List, [], ◌∷◌, ◌++◌, refl, sym, ap, subst, lit<, w64, true, false, Vec, IfOk, Ok, Err}
use mir.Syntax.{Fn, Args, Body, a_type, dcons, dnil}
use mir.Val.{Val, vptr, vint, vstruct, vcons, vnil}
use mir.MapTy.{inst_fn}
use base.Logic.{SProp, id⊢}
use base.Fml.{Lft, Share, ftrue, flft}
use prog.Wp.{Env, WpFn}
use contract.BorrowLft.{◌⊑◌, ⊑_trans}
use contract.Monad.{fact}
use contract.Running.{tables}
use types.Kit.{Sq, ‵, raw, ◌⊛◌, some, given, later, prop, at_ret, ◌$◌, ◌∵◌, !, qed, move, drop, use0, use1, use2, split, join, pick, learn, rewrite, regoal, suffices, frame, fsplit, fjoin, await, done}
use types.Match.{live, vrt, in_variant}
use types.Part.{whole, agg}
use types.Run.{stop, fld, lit, of_opd, no_more, and_then, first, blocks, switches_on, exec, returns, enter}
use types.ByLocal.{alloc_all, pass_all, free_all, look_at, get, get_in, get_tag, sets, sets_last, lands_as, lands_last, env}
use denote.Builtin.{RefOf, u8, usize}
use denote.Laws.{Is}
use denote.RattleType.{RattleType, owns}
use denote.RawPtr.{Ptr, block_ptr}
use denote.Param.{layout, param, bounded}
use denote.Signature.{plain, types_at}
use denote.Steps.{only, nothing, heard, owned}
use denote.Struct.Declared as Declared
use denote.Struct.Struct.{Struct, Struct-Makes}
use denote.Struct.Tuple.{Tuple}
use denote.Triple.Entry.{alive}
use denote.Triple.Call.{calls_at, calls_at_last}
use denote.Triple.Walked.{Stays, stay_dropped, walk_of, ends_at, says, Goes-dropped}
use Rattle.core.specs.contracts.alloc.AllocError as refused
use Rattle.core.specs.contracts.result.Result as outcome
use Rattle.core.proofs.alloc.Calls.{Al, seen, handle_tells, Answer-typed, Answered, Takes, at_takes, Takes-goes, Takes-gives, answers}
use Rattle.core.proofs.alloc.Shapes.{after, head, arm_body}
use Rattle.core.proofs.atomic.Steps.{fm}
use Rattle.core.proofs.result.Made.{Ok-of, Err-of}
use Rattle.std.proofs.raw_atomic.Walks.{proved_at}
use Rattle.std_alloc.specs.declared.vec.lodged.Lodged.{Lodged}
use Rattle.std_alloc.proofs.Pairs.{pair_of, pair_val, pair_Typed}
use Rattle.std_alloc.proofs.RcSteps.{Good, first_Good}
use Rattle.std_alloc.proofs.vec.lodge.Met as lodge
use Rattle.guest_ram.specs.Ownership.{bytes_of}
use Rattle.guest_ram.specs.contracts.block.Receipt as receipt
use Rattle.guest_ram.specs.contracts.block.take.{ended, clauses}
use Rattle.guest_ram.specs.contracts.block.take.Key.{name as #self}
use Rattle.guest_ram.proofs.BlockSteps.{bytes_size, out_of_the_arm, Buffer, whole_buffer, byte_laws, receipt_val, receipt_fields, receipt_made, Lodges, IsEmptyOver, lodging, lodging_goes, lodging_done}
use Rattle.guest_ram.proofs.block.take.Statement.{statement}
use Rattle.guest_ram.proofs.block.take.Code as compiled

pub take_spec : {M : Type 1} → statement M
take_spec 𝓤 𝓛 𝓜 𝓡 wired A L g d dd met md =
    let T = ended A g d dd in
    let c = clauses A g d dd 𝓛 𝓜.mem 𝓡.returns in
    let Z : RattleType = param 0 A in
    let args : Args = bounded (a_type ∷ []) (A, tt) (dcons d (dcons dd dnil)) in
    let fn : Fn = inst_fn args compiled.function in
    let handle = RefOf (0 ∷ []) tt (plain (λ _. Z)) (λ _. tt) in
    let stays : Stays T.signature.params T.kept = (stay_dropped handle T.kept.0, (stay_dropped (plain (λ _. usize)) T.kept.1.0, tt)) in
    let C = (tables 𝓤 𝓛.H 𝓜 𝓡 𝓡.env).C in
    let Λ = (tables 𝓤 𝓛.H 𝓜 𝓡 𝓡.env).Λ in
    proved_at 𝓛 T stays c 𝓜 𝓡 (Goes-dropped 𝓛 2 handle T.kept.0 (λ κs x f. refl), (Goes-dropped 𝓛 2 (plain (λ _. usize)) T.kept.1.0 (λ κs x f. refl), tt))
    (#self args) fn (compiled.unfolded 𝓤 𝓛.H 𝓜 𝓡 wired (A, tt) d dd) (λ z are.
    let Post : Val → SProp 𝓤 = (walk_of 𝓛 T stays c).post z in
    let a = z.0.3 in
    let vss = z.0.4 in
    let Y : Al = record { row = A; laws = L; g = g; d = d; drops = dd } in
    let κ : Lft = z.0.0.0 in
    let q : Share = z.0.1.0 in
    let h = a.0.now in
    let at = a.0.ref_ptr in
    let n = a.1.0 in
    let fits = are.1.0.1 in
    let y = at_takes Y 𝓛 𝓜.mem 𝓡.returns κ q at h n 1 (bytes_of n) in
    let Receipt : RattleType = receipt.the_row Z g in
    let Two : RattleType = Tuple (Buffer ∷ Receipt ∷ []) in
    let Out : RattleType = outcome.the_row Two refused.the_row in
    let Asked : Type 0 = (0 < n) × (n < 2 ^ 63) in
    let Told : Out.Denot → Type 0 = λ x. IfOk x (λ t. (t.0.items ≡ []) × (t.0.cap ≡ n) × (t.1.ptr ≡ t.0.ptr) × (t.1.len ≡ n) × (t.1.alloc ≡ h)) in
    let exits : (x : Out.Denot) (w : Val) → Told x → Sq 𝓛 (‵ (Out.own_val x (w ∷ [])) ∷ ‵ (flft κ q) ∷ (‵ (flft z.0.0.1.0 z.0.1.1.0) ⊛ ‵ ftrue) ∷ []) (prop (Post w)) = λ x w told.
    suffices ! _ (ends_at 𝓛 T stays c z w x (tt, (tt, tt)) (tt, (tt, tt))) $ says ! told $
    move ! (1 ∷ 2 ∷ []) $ join ! $ frame ! $ nothing ! $ nothing ! $ fjoin ! $ nothing ! $ fjoin ! $ done ! in
    qed 𝓛 ((raw (alive 𝓛 T.signature z.0.0 z.0.1) ⊛ ‵ (owns (types_at T.signature.params z.0.0) a vss)) ∷ (raw (fact 𝓤 (z.0.0.1.0 ⊑ A.lives)) ⊛ raw (fact 𝓤 Asked)) ∷ []) ∵
    move ! (1 ∷ []) $ split ! $ heard ! (z.0.0.1.0 ⊑ A.lives) (λ le. heard ! Asked (λ asked. split ! $ move ! (1 ∷ []) $
    -- [the handle; its lifetime; the other lifetimes]
    fsplit ! $ fsplit ! $ drop ! $ move ! (1 ∷ []) $ drop ! $ use1 𝓛 (‵ (seen Y κ at h)) (id⊢ 𝓤 _) $
    move ! (1 ∷ []) $ use1 𝓛 (‵ (flft κ q) ⊛ ‵ (flft z.0.0.1.0 z.0.1.1.0) ⊛ ‵ ftrue) (id⊢ 𝓤 _) $ split ! $ move ! (2 ∷ 0 ∷ []) $
    regoal ! (λ (us : List Val). prop (WpFn 𝓤 𝓛.H C Λ fn us Post)) (λ i. are.0.0 i ++ (are.1.0.0 i ++ [])) refl $
    enter ! C Λ fn (vptr at.0 at.1 ∷ vint w64 n ∷ []) Post $
    alloc_all ! (λ l. pass_all ! refl ((tt, tt), ((tt, record { fits = fits }), tt)) $
    let En : Env 𝓤 𝓛.H = env fn.locals l in
    let chosen : Body = head (after 1 fn.body) in
    let Then = out_of_the_arm 𝓛 C Λ En (after 2 fn.body) (at_ret En Post) in
    use2 𝓛 (raw ((Takes Y 𝓛 𝓜.mem 𝓡.returns).pre y)) (Takes-goes Y 𝓛 𝓜.mem 𝓡.returns κ q at h (⊑_trans κ z.0.0.1.0 A.lives z.0.2.0 le) n 1 (bytes_of n) (bytes_size n fits) refl fits (lit< tt)) $
    calls_at ! (fm 𝓛 𝓜 𝓡) (Takes Y 𝓛 𝓜.mem 𝓡.returns) (met.allocate dd) y (and_then ! (get ! refl) (and_then ! (get ! refl) (and_then ! (lit ! tt) (no_more !)))) (λ v.
    use1 𝓛 (later (raw (Answered Y 𝓛 𝓜.mem 𝓡.returns h (bytes_of n) v) ⊛ ‵ (flft κ q))) (Takes-gives Y 𝓛 𝓜.mem 𝓡.returns κ q at h n 1 (bytes_of n) v) $ await ! tt $ split ! $
    answers Y ! 𝓜.mem 𝓡.returns h (bytes_of n) v
    (λ b o e.
    let p : Ptr = block_ptr b o in
    let empty = lodging 𝓛 𝓜.mem 𝓡.returns b o n in
    let chain : Body = arm_body 0 chosen in
    lands_as ! e refl (Answer-typed true b o) $ first ! $ switches_on ! (get_tag ! (vrt ! refl (fld ! refl (stop !))) (whole !)) $ exec ! C Λ En chain Then $
    sets ! (of_opd ! (get_in ! (vrt ! refl (fld ! refl (stop !))) (in_variant ! 0 0 refl refl (whole !)))) refl (tt, tt) $
    first ! $ blocks ! $ use1 𝓛 (raw ((Lodges 𝓛 𝓜.mem 𝓡.returns).pre empty)) (lodging_goes 𝓛 𝓜.mem 𝓡.returns b o n asked.0 asked.1) $
    calls_at_last ! (fm 𝓛 𝓜 𝓡) (Lodges 𝓛 𝓜.mem 𝓡.returns) (lodge.met 𝓤 𝓛 𝓜 𝓡 (compiled.calls-std_alloc::vec::lodge 𝓡.env wired) u8 byte_laws) empty (and_then ! (get ! refl) (and_then ! (lit ! tt) (and_then ! (get ! refl) (no_more !)))) (λ v₁.
    use1 𝓛 (later (some (λ (r : Vec ℕ Lodged). given (IsEmptyOver 𝓛 𝓜.mem 𝓡.returns b o n r) (‵ (Buffer.own_val r (v₁ ∷ [])))))) (lodging_done 𝓛 𝓜.mem 𝓡.returns b o n v₁) $ await ! tt $
    pick ! (λ r. learn ! (λ is. handle_tells whole_buffer ! r (v₁ ∷ []) (λ u same fine.
    let k : Receipt.Denot = record { ptr = p; len = n; marker = record {}; alloc = h } in
    let made : Val = pair_val v₁ (receipt_val p n) in
    let held : Good (layout Buffer) v₁ = subst (Good (layout Buffer)) (sym (ap only same)) fine in
    let kept : Good (layout Receipt) (receipt_val p n) = (tt, (tt, (record { fits = fits }, (tt, tt)))) in
    let both : Good (layout Two) made = pair_Typed (layout Buffer) (layout Receipt) v₁ (receipt_val p n) held kept in
    let ok = first_Good (layout Two) made both in
    rewrite ! 0 (λ w. ‵ (Buffer.own_val r (w ∷ []))) (sym (ap only same)) refl $ lands_last ! refl held $ exec ! C Λ En (after 2 chain) Then $
    sets ! (of_opd ! (get ! refl)) refl held $
    sets ! (agg ! (no_more !)) refl (tt, tt) $
    sets ! (of_opd ! (get ! refl)) refl held $
    sets ! (agg ! (and_then ! (get ! refl) (and_then ! (get ! refl) (and_then ! (get ! refl) (no_more !))))) refl kept $
    sets ! (agg ! (and_then ! (get ! refl) (and_then ! (get ! refl) (no_more !)))) refl both $
    sets_last ! (agg ! (and_then ! (lit ! tt) (and_then ! (get ! refl) (no_more !)))) refl ok $
    exec ! C Λ En (after 2 fn.body) (at_ret En Post) $ sets ! (of_opd ! (get ! refl)) refl ok $
    returns ! (look_at ! 0 refl) $ free_all ! refl $
    -- [the buffer; the token; the lifetimes]
    move ! (1 ∷ []) $ use0 𝓛 (‵ (receipt_fields p n (receipt_val p n ∷ []))) (receipt_made 𝓛 p n fits) $ fjoin ! $ move ! (1 ∷ 0 ∷ []) $
    use2 𝓛 (‵ (Two.own_val (r, k) (made ∷ []))) (pair_of 𝓛 Buffer Receipt r k v₁ (receipt_val p n)) $
    use1 𝓛 (‵ (Out.own_val (Ok (r, k)) (live 0 (vcons made vnil) ∷ []))) (Ok-of 𝓛 Two refused.the_row (r, k) made) $
    exits (Ok (r, k)) (live 0 (vcons made vnil)) (is.0, is.2, sym is.3, refl, refl))))))
    (λ e.
    let Refusal : RattleType = Struct (Declared.shape refused.the_type) in
    let none : Val = live 1 (vcons (vstruct vnil) vnil) in
    lands_as ! e refl (Answer-typed false 0 0) $ first ! $ switches_on ! (get_tag ! (vrt ! refl (fld ! refl (stop !))) (whole !)) $ exec ! C Λ En (arm_body 1 chosen) Then $
    sets ! (of_opd ! (get_in ! (vrt ! refl (fld ! refl (stop !))) (in_variant ! 1 0 refl refl (whole !)))) refl (tt, tt) $
    sets_last ! (agg ! (and_then ! (lit ! tt) (and_then ! (get ! refl) (no_more !)))) refl (tt, (record { fits = lit< tt }, (tt, tt))) $
    exec ! C Λ En (after 2 fn.body) (at_ret En Post) $ sets ! (of_opd ! (get ! refl)) refl (tt, (record { fits = lit< tt }, (tt, tt))) $
    returns ! (look_at ! 0 refl) $ free_all ! refl $
    owned ! Refusal (Is Refusal) (Struct-Makes 𝓛 (Declared.shape refused.the_type) tt) tt (vstruct vnil ∷ []) (tt, (refl, tt)) $
    use1 𝓛 (‵ (Out.own_val (Err (record {})) (none ∷ []))) (Err-of 𝓛 Two refused.the_row (record {}) (vstruct vnil)) $
    exits (Err (record {})) none tt))))))
