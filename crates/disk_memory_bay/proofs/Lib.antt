mod LeftLaws
mod ShelfLaws
