-- A page and the layout of its planes as their records.
use Rattle.tiff_page.specs.declared.layout.PlaneLayout.{PlaneLayout}
use Rattle.tiff_page.specs.declared.page.Page.{Page}
use Rattle.tiff_page.specs.declared.page.ChunkTable.{ChunkTable}
use Rattle.tiff_page.specs.Layout.{LayoutRecord}
use Rattle.tiff_page.specs.Page.{PageRecord, Chunks}

abbrev pub page : Page → PageRecord
page p = record {
  width = p.width;
  height = p.height;
  interpretation = p.interpretation;
  method = p.method;
  samples = p.samples;
  extra = p.extra;
  format = p.format;
  depth = p.depth;
  predictor = p.predictor;
  planar = p.planar;
  subsampling = (p.subsampling.0, p.subsampling.1);
  chunk_type = p.chunk_type;
  chunk_width = p.chunk_width;
  chunk_height = p.chunk_height;
  offsets = p.offsets;
  byte_counts = p.byte_counts;
}

abbrev pub chunks : ChunkTable → Chunks
chunks c =
    record {
      chunk_width = c.chunk_width;
      chunk_height = c.chunk_height;
      offsets = c.offsets;
      byte_counts = c.byte_counts;
    }

abbrev pub layout : PlaneLayout → LayoutRecord
layout l = record { color = l.color; row_bytes = l.row_bytes; plane_stride = l.plane_stride }
