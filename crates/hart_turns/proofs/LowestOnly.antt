-- Steps of the lowest hart in debug mode lead to one end alone.
use Rattle.std.proofs.Common.{◌≡◌, ℕ, zero, suc, ◌+◌, ◌-◌, ◌<◌, ◌≤◌, ◌⊎◌, inl, inr, ⊎_elim, length, refl, sym, ap, ap₂, ◌∙◌, arith, subst}
use Rattle.std.specs.Prelude.{Option, Some, None, IsTrue, is_none}
use Rattle.std.proofs.lemmas.Bool.{false≢true}
use Rattle.hart_step.specs.Harts.{lowest_in_debug}
use Rattle.hart_turns.specs.declared.booting.BootFault.{BootFault}
use Rattle.hart_turns.specs.declared.booting.BootFault.TheVariants.{Trap, Long}
use Rattle.hart_turns.specs.Boot.{Booted, Booting, begins_boot, boot_step, booted, most_steps, step_exception}
use Rattle.hart_turns.specs.Laws.{BootsAreLowest}
use Rattle.hart_turns.specs.Lowest.{BootFrees, BootHolds, BootLeads, BootTraps, LowestLead, steps_of}
use Rattle.hart_turns.specs.Machine.{MachineState}
use Rattle.hart_turns.proofs.BootEnds.{boots_end_lem}
use Rattle.hart_turns.proofs.Lowest.{counted, lead_steps, none_counted, one_own}
use Rattle.hart_turns.proofs.LowestParts.{FaultStops, HartsEnd, harts_end, left_at}

-- ---- two ways from one place

-- k steps from b go on past c, where n of them had led
record Past (n : ℕ) (b c : Booting) (k : ℕ) : Type 0 where
  hart : ℕ
  lowest : lowest_in_debug c.core ≡ Some hart
  none : step_exception hart c ≡ None
  more : steps_of hart n b < steps_of hart k b

abbrev Meets : ℕ → ℕ → Booting → Booting → Booting → Type 0
Meets n k b c d = ((n ≡ k) × (c ≡ d)) ⊎ (Past n b c k ⊎ Past k b d n)

past_here : (k h : ℕ) (b c : Booting) → b ≡ c → lowest_in_debug b.core ≡ Some h → step_exception h b ≡ None → Past 0 b c (suc k)
past_here k h b c same lowest none = record {
  hart = h;
  lowest = subst (λ (x : Booting). lowest_in_debug x.core ≡ Some h) same lowest;
  none = subst (λ (x : Booting). step_exception h x ≡ None) same none;
  more = let z = none_counted h b in let a = counted h k h b lowest in let e = one_own h in omega (arith, z, a, e);
}

past_later : (n k h : ℕ) (b c : Booting) → lowest_in_debug b.core ≡ Some h → Past n (boot_step h b) c k → Past (suc n) b c (suc k)
past_later n k h b c lowest past = record {
  hart = past.hart;
  lowest = past.lowest;
  none = past.none;
  more = let a = counted past.hart n h b lowest in let e = counted past.hart k h b lowest in let p = past.more in omega (arith, a, e, p);
}

meets_later : (n k h : ℕ) (b c d : Booting) → lowest_in_debug b.core ≡ Some h → Meets n k (boot_step h b) c d → Meets (suc n) (suc k) b c d
meets_later n k h b c d lowest meet = ⊎_elim
    (λ same. inl (ap (λ i. suc i) same.0, same.1))
    (λ apart. inr (⊎_elim (λ past. inl (past_later n k h b c lowest past)) (λ past. inr (past_later k n h b d lowest past)) apart))
    meet

same_hart : (o : Option ℕ) (h j : ℕ) → o ≡ Some h → o ≡ Some j → j ≡ h
same_hart o h j first second = cc

meets : (n k : ℕ) (b c d : Booting) → LowestLead n b c → LowestLead k b d → Meets n k b c d
unfolding LowestLead
meets zero zero b c d first second = inl (refl, sym first ∙ second)
meets zero (suc k) b c d first second = inr (inl (past_here k second.0 b c first second.1.0 second.1.1))
meets (suc n) zero b c d first second = inr (inr (past_here n first.0 b d second first.1.0 first.1.1))
meets (suc n) (suc k) b c d first second =
    let same : second.0 ≡ first.0 = same_hart (lowest_in_debug b.core) first.0 second.0 first.1.0 second.1.0 in
    let rest : LowestLead k (boot_step first.0 b) d = subst (λ h. LowestLead k (boot_step h b) d) same second.1.2 in
    meets_later n k first.0 b c d first.1.0 (meets n k (boot_step first.0 b) c d first.1.2 rest)

-- ---- one end

-- why a boot from b has its end at c after k steps without an exception
abbrev Stops : ℕ → Booting → Booting → Option BootFault → Type 0
Stops k b c None = lowest_in_debug c.core ≡ None
Stops k b c (Some fault) = FaultStops k b c fault

record BootEnd (b : Booting) (x : Booted) : Type 0 where
  made : ℕ
  at : Booting
  leads : BootLeads made b at
  stops : Stops made b at x.fault
  left : x.left ≡ left_at at x.fault

clash : (e : ℕ × ℕ) (o : Option (ℕ × ℕ)) → o ≡ Some e → o ≡ None → ⊥
clash e o some none = absurd (cc)

-- no steps go on past it
no_past : (k l : ℕ) (b c : Booting) (fault : Option BootFault) → Stops k b c fault → ((h : ℕ) → steps_of h l b ≤ most_steps) → Past k b c l → ⊥
no_past k l b c None stops most past = let p = past.lowest in absurd (cc)
no_past k l b c (Some (Trap h pc cause)) stops most past =
    let same : past.hart ≡ h = same_hart (lowest_in_debug c.core) h past.hart stops.0 past.lowest in
    let shown : step_exception past.hart c ≡ Some (pc, cause) = ap (λ i. step_exception i c) same ∙ stops.1 in
    let none : step_exception past.hart c ≡ None = past.none in
    clash (pc, cause) (step_exception past.hart c) shown none
no_past k l b c (Some (Long h)) stops most past =
    let same : past.hart ≡ h = same_hart (lowest_in_debug c.core) h past.hart stops.0 past.lowest in
    let own : steps_of past.hart k b ≡ steps_of h k b = ap (λ i. steps_of i k b) same in
    let all = stops.1 in
    let p = past.more in
    let few = most past.hart in
    absurd (omega (arith, own, all, p, few))

-- and it has one fault at most
same_stop : (k : ℕ) (b c : Booting) (f g : Option BootFault) → Stops k b c f → Stops k b c g → f ≡ g
same_stop k b c None None first second = refl
same_stop k b c None (Some (Trap h pc cause)) first second = let a = first in let e = second.0 in absurd (cc)
same_stop k b c None (Some (Long h)) first second = let a = first in let e = second.0 in absurd (cc)
same_stop k b c (Some (Trap h pc cause)) None first second = let a = first.0 in let e = second in absurd (cc)
same_stop k b c (Some (Trap h pc cause)) (Some (Trap i at why)) first second =
    let same : i ≡ h = same_hart (lowest_in_debug c.core) h i first.0 second.0 in
    let shown : step_exception h c ≡ Some (at, why) = sym (ap (λ j. step_exception j c) same) ∙ second.1 in
    let one : Some (pc, cause) ≡ Some (at, why) = sym first.1 ∙ shown in
    let pair : (pc, cause) ≡ (at, why) = cc in
    ap₂ (λ j (e : ℕ × ℕ). Some (Trap j e.0 e.1)) (sym same) pair
same_stop k b c (Some (Trap h pc cause)) (Some (Long i)) first second =
    let same : i ≡ h = same_hart (lowest_in_debug c.core) h i first.0 second.0 in
    let own : steps_of i k b ≡ steps_of h k b = ap (λ j. steps_of j k b) same in
    let few = first.2 in
    let all = second.1 in
    absurd (omega (arith, own, few, all))
same_stop k b c (Some (Long h)) None first second = let a = first.0 in let e = second in absurd (cc)
same_stop k b c (Some (Long h)) (Some (Trap i at why)) first second =
    let same : i ≡ h = same_hart (lowest_in_debug c.core) h i first.0 second.0 in
    let own : steps_of i k b ≡ steps_of h k b = ap (λ j. steps_of j k b) same in
    let all = first.1 in
    let few = second.2 in
    absurd (omega (arith, own, few, all))
same_stop k b c (Some (Long h)) (Some (Long i)) first second =
    ap (λ j. Some (Long j)) (sym (same_hart (lowest_in_debug c.core) h i first.0 second.0))

same_end : (b : Booting) (x y : Booted) (first : BootEnd b x) (second : BootEnd b y) → first.made ≡ second.made → first.at ≡ second.at → x ≡ y
same_end b x y first second steps place =
    let moved : Stops first.made b second.at x.fault = subst (λ c. Stops first.made b c x.fault) place first.stops in
    let stops : Stops second.made b second.at x.fault = subst (λ k. Stops k b second.at x.fault) steps moved in
    let fault : x.fault ≡ y.fault = same_stop second.made b second.at x.fault y.fault stops second.stops in
    let left : x.left ≡ y.left = first.left ∙ ap₂ left_at place fault ∙ sym second.left in
    ap₂ (λ (l : Booting) (f : Option BootFault). record { left = l; fault = f }) left fault

one_end : (b : Booting) (x y : Booted) → BootEnd b x → BootEnd b y → x ≡ y
one_end b x y first second = ⊎_elim
    (λ same. same_end b x y first second same.0 same.1)
    (λ apart. absurd (⊎_elim
    (λ past. no_past first.made second.made b first.at x.fault first.stops second.leads.most past)
    (λ past. no_past second.made first.made b second.at y.fault second.stops first.leads.most past)
    apart))
    (meets first.made second.made b first.at second.at first.leads.lead second.leads.lead)

-- ---- the boot of a machine

none_is : (o : Option ℕ) → IsTrue (is_none o) → o ≡ None
none_is None is = refl
none_is (Some h) is = absurd (false≢true is)

frees_end : (m : MachineState) (n : ℕ) (c : Booting) → BootFrees m n c → BootEnd (begins_boot m) (record { left = c; fault = None })
frees_end m n c end = record { made = n; at = c; leads = end.leads; stops = none_is (lowest_in_debug c.core) end.running; left = refl }

traps_end : (m : MachineState) (n h pc cause : ℕ) (c : Booting) → BootTraps m n h pc cause c → BootEnd (begins_boot m) (record { left = c; fault = Some (Trap h pc cause) })
traps_end m n h pc cause c end = record { made = n; at = end.before; leads = end.leads; stops = (end.lowest, end.exception, end.fewer); left = end.left }

holds_end : (m : MachineState) (n h : ℕ) (c : Booting) → BootHolds m n h c → BootEnd (begins_boot m) (record { left = c; fault = Some (Long h) })
holds_end m n h c end = record { made = n; at = c; leads = end.leads; stops = (end.lowest, end.all); left = refl }

stops_at : (m : MachineState) (x : Booted) (f : Option BootFault) (ends : HartsEnd m.shape.harts (begins_boot m) (record { left = x.left; fault = f })) → length m.core.harts ≡ m.shape.harts → x ≡ booted m → x.fault ≡ f → Stops ends.made (begins_boot m) ends.at f
stops_at m x None ends many is fault =
    let none : (booted m).fault ≡ None = sym (ap (λ (y : Booted). y.fault) is) ∙ fault in
    let free : lowest_in_debug (booted m).left.core ≡ None = none_is (lowest_in_debug (booted m).left.core) (boots_end_lem.freed m many none) in
    let place : ends.at ≡ (booted m).left = sym ends.left ∙ ap (λ (y : Booted). y.left) is in
    ap (λ (b : Booting). lowest_in_debug b.core) place ∙ free
stops_at m x (Some f) ends many is fault = ends.stops

booted_end : (m : MachineState) → length m.core.harts ≡ m.shape.harts → BootEnd (begins_boot m) (booted m)
unfolding booted
booted_end m many =
    let ends : HartsEnd m.shape.harts (begins_boot m) (booted m) = harts_end m.shape.harts (begins_boot m) (omega (arith, many)) in
    record {
      made = ends.made;
      at = ends.at;
      leads = record { lead = ends.lead; most = ends.most };
      stops = stops_at m (booted m) (booted m).fault ends many refl refl;
      left = ends.left;
    }

-- the same, with the fault spelled out
ended_by : (m : MachineState) (f : Option BootFault) → length m.core.harts ≡ m.shape.harts → (booted m).fault ≡ f → BootEnd (begins_boot m) (record { left = (booted m).left; fault = f })
ended_by m f many fault = subst (λ (g : Option BootFault). BootEnd (begins_boot m) (record { left = (booted m).left; fault = g })) fault (booted_end m many)

-- steps that lead to c, by its own count of them
by_count : (m : MachineState) (k n : ℕ) (c : Booting) → BootLeads k (begins_boot m) c → (c.steps ≡ k → n ≡ k) → k ≡ n
by_count m k n c leads count = sym (count (let a = lead_steps k (begins_boot m) c leads.lead in omega (arith, a)))

freed_lem : (m : MachineState) → length m.core.harts ≡ m.shape.harts → (booted m).fault ≡ None → BootFrees m (booted m).left.steps (booted m).left
freed_lem m many none =
    let left : Booting = (booted m).left in
    let end : BootEnd (begins_boot m) (record { left = left; fault = None }) = ended_by m None many none in
    let leads : BootLeads end.made (begins_boot m) left = subst (λ c. BootLeads end.made (begins_boot m) c) (sym end.left) end.leads in
    let count : end.made ≡ left.steps = by_count m end.made left.steps left leads (λ e. e) in
    record { leads = subst (λ n. BootLeads n (begins_boot m) left) count leads; running = boots_end_lem.freed m many none }

trapped_lem : (m : MachineState) (h pc cause : ℕ) → length m.core.harts ≡ m.shape.harts → (booted m).fault ≡ Some (Trap h pc cause) → BootTraps m ((booted m).left.steps - 1) h pc cause (booted m).left
trapped_lem m h pc cause many some =
    let left : Booting = (booted m).left in
    let end : BootEnd (begins_boot m) (record { left = left; fault = Some (Trap h pc cause) }) = ended_by m (Some (Trap h pc cause)) many some in
    let more : left.steps ≡ end.at.steps + 1 = ap (λ (b : Booting). b.steps) end.left in
    let count : end.made ≡ left.steps - 1 = by_count m end.made (left.steps - 1) end.at end.leads (λ e. omega (arith, e, more)) in
    let stops : Stops end.made (begins_boot m) end.at (Some (Trap h pc cause)) = end.stops in
    subst (λ n. BootTraps m n h pc cause left) count
    (record { before = end.at; leads = end.leads; lowest = stops.0; fewer = stops.2; exception = stops.1; left = end.left })

held_lem : (m : MachineState) (h : ℕ) → length m.core.harts ≡ m.shape.harts → (booted m).fault ≡ Some (Long h) → BootHolds m (booted m).left.steps h (booted m).left
held_lem m h many some =
    let left : Booting = (booted m).left in
    let end : BootEnd (begins_boot m) (record { left = left; fault = Some (Long h) }) = ended_by m (Some (Long h)) many some in
    let stops : Stops end.made (begins_boot m) end.at (Some (Long h)) = end.stops in
    let there : BootHolds m end.made h end.at = record { leads = end.leads; lowest = stops.0; all = stops.1 } in
    let here : BootHolds m end.made h left = subst (λ c. BootHolds m end.made h c) (sym end.left) there in
    let count : end.made ≡ left.steps = by_count m end.made left.steps left here.leads (λ e. e) in
    subst (λ n. BootHolds m n h left) count here

pub boots_are_lowest_lem : BootsAreLowest
boots_are_lowest_lem = record {
  freed = freed_lem;
  frees = λ m n c many end. one_end (begins_boot m) (booted m) (record { left = c; fault = None }) (booted_end m many) (frees_end m n c end);
  trapped = trapped_lem;
  traps = λ m n h pc cause c many end. one_end (begins_boot m) (booted m) (record { left = c; fault = Some (Trap h pc cause) }) (booted_end m many) (traps_end m n h pc cause c end);
  held = held_lem;
  holds = λ m n h c many end. one_end (begins_boot m) (booted m) (record { left = c; fault = Some (Long h) }) (booted_end m many) (holds_end m n h c end);
}
