-- `give_back` takes the room out of the buffer, and hands it to the allocator with its token. Assumes `Logic`.
use Rattle.std.proofs.Common.{◌≡◌, ℕ, ◌^◌, ◌<◌, List, [], ◌∷◌, ◌++◌, refl, sym, ap, ◌∙◌, lit<, w64, Vec}
use mir.Syntax.{Fn, Args, a_type, dcons, dnil, place}
use mir.Val.{Val, vptr, vunit, vint}
use mir.MapTy.{inst_fn}
use base.Logic.{SProp, id⊢}
use base.Fml.{Lft, Share, ftrue, froom, flft}
use prog.Wp.{Env, WpFn}
use contract.BorrowLft.{◌⊑◌, ⊑_trans}
use contract.Monad.{fact}
use contract.Running.{tables}
use types.Kit.{‵, raw, ◌⊛◌, given, later, prop, settles, at_ret, ◌$◌, ◌∵◌, !, qed, by, move, drop, use1, use3, split, join, learn, rewrite, regoal, fsplit, fsplit3, fjoin, feq_i, await}
use types.Part.{whole, sub}
use types.Run.{stop, fld, lit, unit_lit, of_opd, no_more, and_then, first, blocks, exec, returns, enter}
use types.ByLocal.{alloc_all, pass_all, free_all, look_at, get, get_in, sets, lands_as, lands_last, env}
use denote.Builtin.{RefOf, u8}
use denote.RattleType.{RattleType, owns}
use denote.RawPtr.{Ptr, block_ptr, in_a_block}
use denote.Param.{param, bounded}
use denote.Signature.{plain, types_at}
use denote.Steps.{nothing, heard}
use denote.Triple.Entry.{alive}
use denote.Triple.Call.{calls_at, calls_at_last}
use denote.Triple.Walked.{Stays, stay_dropped, walk_of, Goes-dropped}
use Rattle.core.proofs.alloc.Calls.{Al, seen, handle_tells, Goes-blank, Gives, at_gives, Gives-goes, Gives-Gives}
use Rattle.core.proofs.alloc.Shapes.{after}
use Rattle.core.proofs.atomic.Steps.{fm}
use Rattle.std.proofs.raw_atomic.Walks.{proved_at, leaves}
use Rattle.std_alloc.specs.declared.vec.lodged.Lodged.{Lodged}
use Rattle.std_alloc.proofs.vec.lodged.Vec+T+Lodged.dislodge.Met as dislodge
use Rattle.guest_ram.specs.Ownership.{bytes_of}
use Rattle.guest_ram.specs.contracts.block.Receipt as receipt
use Rattle.guest_ram.specs.contracts.block.give_back.{ended, clauses}
use Rattle.guest_ram.specs.contracts.block.give_back.Key.{name as #self}
use Rattle.guest_ram.proofs.BlockSteps.{bytes_size, out_of_the_block, Buffer, whole_buffer, byte_laws, receipt_val, receipt_told, null_buffer, Dislodges, leaving, leaving_goes, leaving_done}
use Rattle.guest_ram.proofs.block.give_back.Statement.{statement}
use Rattle.guest_ram.proofs.block.give_back.Code as compiled

pub give_back_spec : {M : Type 1} → statement M
give_back_spec 𝓤 𝓛 𝓜 𝓡 wired A L g d dd met md =
    let T = ended A g d dd in
    let c = clauses A g d dd 𝓛 𝓜.mem 𝓡.returns in
    let Z : RattleType = param 0 A in
    let args : Args = bounded (a_type ∷ []) (A, tt) (dcons d (dcons dd dnil)) in
    let fn : Fn = inst_fn args compiled.function in
    let handle = RefOf (0 ∷ []) tt (plain (λ _. Z)) (λ _. tt) in
    let stays : Stays T.signature.params T.kept = (stay_dropped (plain (λ _. Buffer)) T.kept.0, (stay_dropped (plain (λ _. receipt.the_row Z g)) T.kept.1.0, (stay_dropped handle T.kept.1.1.0, tt))) in
    let C = (tables 𝓤 𝓛.H 𝓜 𝓡 𝓡.env).C in
    let Λ = (tables 𝓤 𝓛.H 𝓜 𝓡 𝓡.env).Λ in
    proved_at 𝓛 T stays c 𝓜 𝓡 (Goes-blank 𝓛 2 (plain (λ _. Buffer)) T.kept.0 (λ κs x f. tt), (Goes-blank 𝓛 2 (plain (λ _. receipt.the_row Z g)) T.kept.1.0 (λ κs x f. tt), (Goes-dropped 𝓛 2 handle T.kept.1.1.0 (λ κs x f. refl), tt)))
    (#self args) fn (compiled.unfolded 𝓤 𝓛.H 𝓜 𝓡 wired (A, tt) d dd) (λ z are.
    let Post : Val → SProp 𝓤 = (walk_of 𝓛 T stays c).post z in
    let a = z.0.3 in
    let vss = z.0.4 in
    let Y : Al = record { row = A; laws = L; g = g; d = d; drops = dd } in
    let κ : Lft = z.0.0.0 in
    let q : Share = z.0.1.0 in
    let v : Vec ℕ Lodged = a.0 in
    let k = a.1.0 in
    let n = k.len in
    let told = receipt_told k.ptr n vss.1.0 are.1.0.0 in
    let h = a.1.1.0.now in
    let at = a.1.1.0.ref_ptr in
    let Asked : Type 0 = (k.ptr ≡ v.ptr) × (n ≡ v.cap) × (k.alloc ≡ h) × (0 < v.cap) in
    qed 𝓛 ((raw (alive 𝓛 T.signature z.0.0 z.0.1) ⊛ ‵ (owns (types_at T.signature.params z.0.0) a vss)) ∷ (raw (fact 𝓤 (z.0.0.1.0 ⊑ A.lives)) ⊛ raw (fact 𝓤 Asked)) ∷ []) ∵
    move ! (1 ∷ []) $ split ! $ heard ! (z.0.0.1.0 ⊑ A.lives) (λ le. heard ! Asked (λ asked. split ! $ move ! (1 ∷ []) $
    fsplit3 ! $ in_a_block ! v.ptr (λ p. Buffer.own_val (record v { ptr = p }) vss.0) (null_buffer 𝓛 v vss.0) (λ b o placed.
    let v' : Vec ℕ Lodged = record v { ptr = block_ptr b o } in
    handle_tells whole_buffer ! v' vss.0 (λ u is good.
    -- [the token; the buffer; the handle; the lifetimes]
    move ! (1 ∷ []) $ fsplit ! $ drop ! $
    rewrite ! 0 (λ (w : A.Denot × ℕ × Ptr). ‵ (g.dealloc_token w.0 (bytes_of w.1) w.2)) {x = (h, n, block_ptr b o)} (λ i. (asked.2 i, n, (asked.0 ∙ placed) i)) refl $
    move ! (2 ∷ []) $ fsplit ! $ fsplit ! $ drop ! $ move ! (1 ∷ []) $ drop ! $ use1 𝓛 (‵ (seen Y κ at h)) (id⊢ 𝓤 _) $
    move ! (3 ∷ []) $ use1 𝓛 (‵ (flft κ q) ⊛ ‵ (flft z.0.0.1.0 z.0.1.1.0) ⊛ ‵ ftrue) (id⊢ 𝓤 _) $ split ! $ move ! (2 ∷ 0 ∷ []) $ join ! $ move ! (3 ∷ []) $
    -- [the buffer; the handle; the other lifetimes; the token]
    regoal ! (λ (us : List Val). prop (WpFn 𝓤 𝓛.H C Λ fn us Post)) (λ i. is i ++ ((told.0 ∙ ap (λ (p : Ptr). receipt_val p n ∷ []) (asked.0 ∙ placed)) i ++ (are.1.1.0.0 i ++ []))) refl $
    enter ! C Λ fn (u ∷ receipt_val (block_ptr b o) n ∷ vptr at.0 at.1 ∷ []) Post $
    alloc_all ! (λ l. pass_all ! refl (good, ((tt, (tt, (record { fits = told.1 }, (tt, tt)))), ((tt, tt), tt))) $
    let En : Env 𝓤 𝓛.H = env fn.locals l in
    let room = leaving 𝓛 𝓜.mem 𝓡.returns v' u in
    let y = at_gives Y 𝓛 𝓜.mem 𝓡.returns κ q at h b o n 1 (bytes_of n) in
    sets ! (of_opd ! (get ! refl)) refl good $
    use1 𝓛 (raw ((Dislodges 𝓛 𝓜.mem 𝓡.returns).pre room)) (leaving_goes 𝓛 𝓜.mem 𝓡.returns v' u) $
    calls_at ! (fm 𝓛 𝓜 𝓡) (Dislodges 𝓛 𝓜.mem 𝓡.returns) (dislodge.met 𝓤 𝓛 𝓜 𝓡 (compiled.calls-std_alloc::vec::lodged::Vec+T+Lodged::dislodge 𝓡.env wired) u8 byte_laws) room (and_then ! (get ! refl) (no_more !)) (λ w.
    use1 𝓛 (later (given ((w ≡ vint w64 v.len) × (v.len < 2 ^ 64)) (‵ (froom (bytes_of v.cap) b o)))) (leaving_done 𝓛 𝓜.mem 𝓡.returns v' u b o refl asked.3 w) $ await ! tt $ learn ! (λ got.
    lands_as ! got.0 refl (tt, record { fits = got.1 }) $
    sets ! (of_opd ! (get_in ! (fld ! refl (stop !)) (sub ! 0 refl (whole !)))) refl (tt, tt) $
    sets ! (of_opd ! (get_in ! (fld ! refl (stop !)) (sub ! 1 refl (whole !)))) refl (tt, record { fits = told.1 }) $
    -- [the room; the handle; the other lifetimes; the token]
    first ! $ blocks ! $ rewrite ! 0 (λ (m : ℕ). ‵ (froom (bytes_of m) b o)) (sym asked.1) refl $ move ! (0 ∷ 3 ∷ 1 ∷ []) $
    use3 𝓛 (raw ((Gives Y 𝓛 𝓜.mem 𝓡.returns).pre y)) (Gives-goes Y 𝓛 𝓜.mem 𝓡.returns κ q at h (⊑_trans κ z.0.0.1.0 A.lives z.0.2.0 le) b o n 1 (bytes_of n) (bytes_size n told.1) refl told.1 (lit< tt)) $
    calls_at_last ! (fm 𝓛 𝓜 𝓡) (Gives Y 𝓛 𝓜.mem 𝓡.returns) (met.deallocate dd) y (and_then ! (get ! refl) (and_then ! (get ! refl) (and_then ! (get ! refl) (and_then ! (lit ! tt) (no_more !))))) (λ w'.
    use1 𝓛 (later (given (w' ≡ vunit) (‵ (flft κ q)))) (Gives-Gives Y 𝓛 𝓜.mem 𝓡.returns κ q at h b o n 1 (bytes_of n) w') $ await ! tt $ learn ! (λ is_unit. join ! $
    regoal ! (λ (x : Val). settles En (place 8 []) x (out_of_the_block 𝓛 C Λ En (after 5 fn.body) (at_ret En Post))) is_unit refl $ lands_last ! refl (tt, tt) $
    exec ! C Λ En (after 5 fn.body) (at_ret En Post) $
    sets ! (of_opd ! (unit_lit !)) refl (tt, tt) $
    returns ! (look_at ! 0 refl) $ free_all ! refl $
    feq_i ! (List Val) (vunit ∷ []) (vunit ∷ []) refl $ nothing ! $ nothing ! $ nothing ! $ fjoin ! $ nothing ! $ fjoin ! $ nothing ! $ fjoin ! $ move ! (3 ∷ 0 ∷ 2 ∷ 1 ∷ []) $
    by ! (leaves 𝓛 T stays c z vunit tt (tt, (tt, (tt, tt))) (tt, (tt, (tt, tt))))))))))))))
