-- The files that a save leaves restore the machine.
use Rattle.image_saver.specs.Laws.{saved}
use Rattle.image_saver.proofs.LoadBack.{saved_is_loaded}
use Rattle.checkpoint_run.specs.Laws.{SavedIsRestored}

pub saved_is_restored : SavedIsRestored
saved_is_restored held name m rom fit few is = record {
  checkpoint = saved m rom;
  loads = saved_is_loaded held name m rom fit few is.short;
  steps = is.restores.0;
  boots = is.restores.1;
}
