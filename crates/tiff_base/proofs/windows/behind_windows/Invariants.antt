use Rattle.std.proofs.Common.{◌≡◌, Some, take}
use Rattle.std.specs.List.{fold, AllWithin}
use Rattle.tiff_base.specs.SourceAndSink.{AreOctets}
use Rattle.tiff_base.specs.declared.windows.Window.{Window}
use Rattle.tiff_base.specs.Windows.{behind_window}
use Rattle.tiff_base.proofs.windows.behind_windows.Given as goal

abbrev pub invariant-loop-window : goal.invariant-loop-window
invariant-loop-window l = record {
  end : l.end ≡ fold (behind_window l.len) (Some 0) (take l.window-index l.windows);
  octets : AllWithin (λ (w : Window). AreOctets w.bytes.now) l.windows 0 l.window-index;
}
