-- Acts on files: what one leaves, and acts one after another.
use Rattle.std.proofs.Common.{◌≡◌, ℕ, List, [], ◌∷◌, ◌++◌, Option, Some, None, Result, Ok, Err, refl, sym, ap, subst, ◌∙◌, inl}
use Rattle.std.specs.Prelude.{IfErr, OnOk}
use Rattle.outside_io.specs.Causes.{HasCause}
use Rattle.outside_io.specs.Content.{GrowsBy, GrowsByPrefix, Held, IsEmptied, IsHeld, KeepsOthers, MayBeEmptied, Told}
use Rattle.outside_io.specs.declared.OutFault.{OutFault}
use Rattle.outside_io.specs.declared.OutFault.TheVariants as out_fault
use Rattle.outside_acts.specs.declared.Stop.{Stop}
use Rattle.outside_acts.specs.declared.Stop.TheVariants as stop
use Rattle.outside_acts.specs.Acts.{Act, Start, Append, IsCut, StopsAt, filed, read, sent}
use Rattle.outside_acts.proofs.Algebra.{cut_later, cut_sooner, filed_joined, filed_none, read_joined, read_none, sent_joined, sent_none, told_both}
use Rattle.outside_acts.proofs.Held.{added, started, still_held, still_told}
use Rattle.outside_acts.proofs.OneAct.{DidPart, OnFiles, append_part, start_part}
use Rattle.image_saver.specs.declared.fault.SaveFault.{SaveFault}
use Rattle.image_saver.specs.declared.fault.SaveFault.TheVariants.{NoMemory}
use Rattle.hart_turns.specs.Machine.{MachineState}
use Rattle.sim_config.specs.Written.{meta_bytes}
use Rattle.image_saver.specs.declared.fault.Part.TheVariants.{Mainram, Bootram}
use Rattle.image_saver.specs.Checkpoint.{meta_file, part_file}
use Rattle.image_saver.specs.Saving.{FilesCut, FilesDid, Writes, file_acts, save_acts, save_stop, saved_meta, write_cause, write_refusal}

-- ---- acts on files alone

pub on_both : {xs ys : List Act} → OnFiles xs → OnFiles ys → OnFiles (xs ++ ys)
on_both {xs} {ys} first second = record {
  silent = sent_joined xs ys ∙ ap (λ (zs : List ℕ). zs ++ sent ys) first.silent ∙ second.silent;
  unread = λ from. read_joined xs ys from ∙ second.unread (read xs from) ∙ first.unread from;
}

-- the acts were done, and others were cut
cut_after : (why : Stop) (xs ys : List Act) (x y z : Held) → OnFiles xs → FilesDid xs x y → FilesCut why ys y z → FilesCut why (xs ++ ys) x z
cut_after why xs ys x y z on did cut =
    let both = on_both on (record { silent = cut.unsent; unread = cut.unread }) in
    record {
      front = xs ++ cut.front;
      cut = λ from. cut_later xs (cut.cut (read xs from));
      unread = both.unread;
      unsent = both.silent;
      files_are = cut.files_are ∙ ap (filed cut.front) did ∙ sym (filed_joined xs cut.front x);
    }

told_after : (why : Stop) (xs ys : List Act) (a b c : Option Held) → OnFiles xs → Told a b (FilesDid xs) → Told b c (FilesCut why ys) → Told a c (FilesCut why (xs ++ ys))
told_after why xs ys None b c on did cut = tt
told_after why xs ys (Some x) None c on did cut = absurd did
told_after why xs ys (Some x) (Some y) None on did cut = absurd cut
told_after why xs ys (Some x) (Some y) (Some z) on did cut = cut_after why xs ys x y z on did cut

-- the acts were cut before others were done
told_before : (why : Stop) (xs ys : List Act) (a b : Option Held) → Told a b (FilesCut why xs) → Told a b (FilesCut why (xs ++ ys))
told_before why xs ys None b cut = tt
told_before why xs ys (Some x) None cut = cut
told_before why xs ys (Some x) (Some y) cut = record {
  front = cut.front;
  cut = λ from. cut_sooner ys (cut.cut from);
  unread = cut.unread;
  unsent = cut.unsent;
  files_are = cut.files_are;
}

-- what is held stays held
cut_held : (why : Stop) (acts : List Act) (a b : Option Held) → Told a b (FilesCut why acts) → (name : List ℕ) → IsHeld a name → IsHeld b name
cut_held why acts None b cut name held = absurd held
cut_held why acts (Some x) None cut name held = absurd cut
cut_held why acts (Some x) (Some y) cut name held = still_held cut.front (Some x) (Some y) cut.files_are name held

-- ---- what a call on one file leaves

-- a part of the act was done
part_cut : (why : Stop) (act : Act) (a b : Option Held) → StopsAt why act → DidPart act a b → Told a b (FilesCut why (act ∷ []))
part_cut why act None b stops did = tt
part_cut why act (Some x) None stops did = absurd did.filed
part_cut why act (Some x) (Some y) stops did = record {
  front = did.part;
  cut = λ from. record {
    done = [];
    next = act;
    rest = [];
    part = did.part;
    acts_are = refl;
    stops = stops;
    part_is = did.part_is (read [] from);
    left_are = refl;
  };
  unread = did.on.unread;
  unsent = did.on.silent;
  files_are = did.filed;
}

stops_start : (why : OutFault) (name : List ℕ) → StopsAt (save_stop (write_refusal why)) (Start name)
stops_start out_fault.Failed name = tt
stops_start out_fault.NoMemory name = tt

pub stops_append : (why : OutFault) (name piece : List ℕ) → StopsAt (save_stop (write_refusal why)) (Append name piece)
stops_append out_fault.Failed name piece = tt
stops_append out_fault.NoMemory name piece = tt

pub fault_cause : {T : Type 0} (why : OutFault) (before now : ℕ) → HasCause {T = T} before now (Err why) → write_cause {T = T} (Err (write_refusal why)) before now
fault_cause out_fault.Failed before now cause = cause.failed refl
fault_cause out_fault.NoMemory before now cause = cause.starved refl

-- the acts were done
pub did : {F T : Type 0} {held : F → Option Held} {reads writes : F → ℕ} {a b : F} (x : T) (acts : List Act)
    → Told (held a) (held b) (FilesDid acts) → writes b ≡ writes a → reads b ≡ reads a
    → Writes {F = F} {T = T} held reads writes acts a b (Ok x)
did {held = held} {a = a} {b = b} x acts filed cause same = record {
  done = filed;
  cut = tt;
  cause = cause;
  reads = same;
  told = still_told (held a) (held b) (FilesDid acts) filed;
  holds = still_held acts (held a) (held b) filed;
}

-- they were cut
pub was_cut : {F T : Type 0} {held : F → Option Held} {reads writes : F → ℕ} {a b : F} (why : SaveFault) (acts : List Act)
    → Told (held a) (held b) (FilesCut (save_stop why) acts) → write_cause {T = T} (Err why) (writes a) (writes b) → reads b ≡ reads a
    → Writes {F = F} {T = T} held reads writes acts a b (Err why)
was_cut {held = held} {a = a} {b = b} why acts cut cause same = record {
  done = tt;
  cut = cut;
  cause = cause;
  reads = same;
  told = still_told (held a) (held b) (FilesCut (save_stop why) acts) cut;
  holds = cut_held (save_stop why) acts (held a) (held b) cut;
}

-- the file was started, or a part of that was done
pub starts : {F T : Type 0} {held : F → Option Held} {reads writes : F → ℕ} {a b : F} (x : T) (name : List ℕ)
    → Told (held a) (held b) (IsEmptied name) → Told (held a) (held b) (KeepsOthers name) → HasCause {T = T} (writes a) (writes b) (Ok x) → reads b ≡ reads a
    → Writes {F = F} {T = T} held reads writes (Start name ∷ []) a b (Ok x)
starts {held = held} {a = a} {b = b} x name named others cause same =
    did x (Start name ∷ []) (started name (held a) (held b) named others) cause.kept same

pub start_cut : {F T : Type 0} {held : F → Option Held} {reads writes : F → ℕ} {a b : F} (why : OutFault) (name : List ℕ)
    → Told (held a) (held b) (MayBeEmptied name) → Told (held a) (held b) (KeepsOthers name) → HasCause {T = T} (writes a) (writes b) (Err why) → reads b ≡ reads a
    → Writes {F = F} {T = T} held reads writes (Start name ∷ []) a b (Err (write_refusal why))
start_cut {T = T} {held = held} {writes = writes} {a = a} {b = b} why name named others cause same =
    was_cut (write_refusal why) (Start name ∷ [])
    (part_cut _ (Start name) (held a) (held b) (stops_start why name) (start_part name (held a) (held b) named others))
    (fault_cause {T = T} why (writes a) (writes b) cause) same

-- the file grew, or a part of that was done
pub appends : {F T : Type 0} {held : F → Option Held} {reads writes : F → ℕ} {a b : F} (x : T) (name piece : List ℕ)
    → Told (held a) (held b) (GrowsBy piece name) → Told (held a) (held b) (KeepsOthers name) → HasCause {T = T} (writes a) (writes b) (Ok x) → reads b ≡ reads a
    → Writes {F = F} {T = T} held reads writes (Append name piece ∷ []) a b (Ok x)
appends {held = held} {a = a} {b = b} x name piece named others cause same =
    did x (Append name piece ∷ []) (added name piece (held a) (held b) named others) cause.kept same

pub append_cut : {F T : Type 0} {held : F → Option Held} {reads writes : F → ℕ} {a b : F} (why : OutFault) (name piece : List ℕ)
    → Told (held a) (held b) (GrowsByPrefix piece name) → Told (held a) (held b) (KeepsOthers name) → HasCause {T = T} (writes a) (writes b) (Err why) → reads b ≡ reads a
    → Writes {F = F} {T = T} held reads writes (Append name piece ∷ []) a b (Err (write_refusal why))
append_cut {T = T} {held = held} {writes = writes} {a = a} {b = b} why name piece named others cause same =
    was_cut (write_refusal why) (Append name piece ∷ [])
    (part_cut _ (Append name piece) (held a) (held b) (stops_append why name piece) (append_part name piece (held a) (held b) named others))
    (fault_cause {T = T} why (writes a) (writes b) cause) same

-- nothing was done
pub none_done : (why : Stop) (name : List ℕ) (rest : List Act) → StopsAt why (Start name) → (from : ℕ) → IsCut why from (Start name ∷ rest) []
none_done why name rest stops from = record {
  done = [];
  next = Start name;
  rest = rest;
  part = [];
  acts_are = refl;
  stops = stops;
  part_is = inl refl;
  left_are = refl;
}

none_cut : (name : List ℕ) (rest : List Act) (told : Option Held) → Told told told (FilesCut stop.NoMemory (Start name ∷ rest))
none_cut name rest None = tt
none_cut name rest (Some held) = record {
  front = [];
  cut = none_done stop.NoMemory name rest tt;
  unread = read_none;
  unsent = sent_none;
  files_are = sym (filed_none held);
}

-- ---- calls one after another

done_both : {T : Type 0} (result : Result T SaveFault) (xs ys : List Act) (a b c : Option Held) → Told a b (FilesDid xs)
    → OnOk result (Told b c (FilesDid ys)) → OnOk result (Told a c (FilesDid (xs ++ ys)))
done_both (Ok x) xs ys a b c first second = told_both xs ys a b c first second
done_both (Err why) xs ys a b c first second = tt

cut_both : {T : Type 0} (result : Result T SaveFault) (xs ys : List Act) (a b c : Option Held) → OnFiles xs → Told a b (FilesDid xs)
    → IfErr result (λ why. Told b c (FilesCut (save_stop why) ys)) → IfErr result (λ why. Told a c (FilesCut (save_stop why) (xs ++ ys)))
cut_both (Ok x) xs ys a b c on first second = tt
cut_both (Err why) xs ys a b c on first second = told_after (save_stop why) xs ys a b c on first second

-- a call that was done, and one that answers so
pub writes_both : {F S T : Type 0} {held : F → Option Held} {reads writes : F → ℕ} {xs ys : List Act} {a b c : F} {x : S} {result : Result T SaveFault}
    → OnFiles xs → Writes {F = F} {T = S} held reads writes xs a b (Ok x) → Writes held reads writes ys b c result → Writes held reads writes (xs ++ ys) a c result
writes_both {held = held} {writes = writes} {xs = xs} {ys = ys} {a = a} {b = b} {c = c} {result = result} on first second = record {
  done = done_both result xs ys (held a) (held b) (held c) first.done second.done;
  cut = cut_both result xs ys (held a) (held b) (held c) on first.done second.cut;
  cause = subst (λ (n : ℕ). write_cause result n (writes c)) first.cause second.cause;
  reads = second.reads ∙ first.reads;
  told = λ some. second.told (first.told some);
  holds = λ name is. second.holds name (first.holds name is);
}

-- a call that was cut, before others
pub writes_sooner : {F S T : Type 0} {held : F → Option Held} {reads writes : F → ℕ} {xs : List Act} {a b : F} {why : SaveFault} (ys : List Act)
    → Writes {F = F} {T = S} held reads writes xs a b (Err why) → Writes {F = F} {T = T} held reads writes (xs ++ ys) a b (Err why)
writes_sooner {held = held} {xs = xs} {a = a} {b = b} {why = why} ys cut = record {
  done = tt;
  cut = told_before (save_stop why) xs ys (held a) (held b) cut.cut;
  cause = cut.cause;
  reads = cut.reads;
  told = cut.told;
  holds = cut.holds;
}

-- ---- a save

pub saves : {F T : Type 0} {held : F → Option Held} {reads writes : F → ℕ} {a b : F} {result : Result T SaveFault}
    (name : List ℕ) (m : MachineState) {meta mainram bootram ram text : List ℕ} (rom : List ℕ)
    → meta ≡ meta_file name → mainram ≡ part_file Mainram name → bootram ≡ part_file Bootram name
    → ram ≡ m.core.ram → text ≡ meta_bytes (saved_meta m rom)
    → Writes held reads writes (file_acts meta mainram bootram ram rom text) a b result → Writes held reads writes (save_acts name m rom) a b result
unfolding save_acts
saves {held = held} {reads} {writes} {a} {b} {result} name m {meta} {mainram} {bootram} {ram} {text} rom of_meta of_mainram of_bootram of_ram of_text written =
    let same : file_acts meta mainram bootram ram rom text
    ≡ file_acts (meta_file name) (part_file Mainram name) (part_file Bootram name) m.core.ram rom (meta_bytes (saved_meta m rom)) =
    rw (of_meta, of_mainram, of_bootram, of_ram, of_text) refl in
    subst (λ (acts : List Act). Writes held reads writes acts a b result) same written

pub none_saved : {F T : Type 0} {held : F → Option Held} {reads writes : F → ℕ} {a : F} (name : List ℕ) (m : MachineState) (rom : List ℕ)
    → Writes {F = F} {T = T} held reads writes (save_acts name m rom) a a (Err NoMemory)
unfolding save_acts
none_saved {held = held} {a = a} name m rom = was_cut NoMemory _ (none_cut (meta_file name) _ (held a)) refl refl
