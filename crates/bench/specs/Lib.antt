pub mod PieceParts
